-- What a step of a scan keeps.
use Rattle.std.specs.Prelude.{◌≡◌, ℕ, ◌+◌, ◌<◌, ◌≤◌, ◌^◌, List, ◌++◌, length, drop}
use Rattle.thread_tree.specs.declared.place.Place.{Place}
use Rattle.thread_tree.specs.declared.name.Name.{Name}
use Rattle.thread_tree.specs.declared.token.Placed.{Placed}
use Rattle.thread_tokens.specs.declared.scanner.Step.{Step}
use Rattle.thread_tokens.specs.declared.scanner.Step.TheVariants.{Taken, Ended}
use Rattle.thread_tokens.specs.Scan.{Scan, ended, scan_from}

-- a scan behind these tokens
abbrev pub prefixed : List Placed → Scan → Scan
prefixed tokens scan = record scan { tokens = tokens ++ scan.tokens }

-- the scan whose tokens begin so, and which goes on at this place, after these names
abbrev pub going_on : List Placed → List Name → Place → List ℕ → Scan
going_on tokens names place rest = prefixed tokens (scan_from rest 0 place names)

-- names and places fit 32 bits up to the end of the text
pub record HasRoom (names : List Name) (place : Place) (rest : List ℕ) : Type 0 where
  pub names_fit : length names + length rest < 2 ^ 32
  pub lines_fit : place.line + length rest < 2 ^ 32
  pub columns_fit : place.column + length rest < 2 ^ 32

-- n bytes were taken, and the scan behind them gives the whole
pub record GoesOnBehind (whole : Scan) (tokens : List Placed) (names : List Name) (place : Place) (rest : List ℕ) (n : ℕ) : Type 0 where
  pub some : 0 < n
  pub within : n ≤ length rest
  pub room : HasRoom names place (drop n rest)
  pub same : whole ≡ going_on tokens names place (drop n rest)

-- what a step met, where the whole was this scan
abbrev pub GoesOn : Scan → List Placed → List Name → Place → List ℕ → Step → Type 0
GoesOn whole tokens names place rest (Taken n) = GoesOnBehind whole tokens names place rest n
GoesOn whole tokens names place rest (Ended ending) = whole ≡ ended tokens names ending
