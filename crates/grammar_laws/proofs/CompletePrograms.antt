-- The table takes what spells a program.
use Rattle.std.proofs.Common.{◌≡◌, List, [], ◌∷◌, Option, Some, refl}
use Rattle.thread_tree.specs.declared.place.At.{At}
use Rattle.thread_tree.specs.declared.place.Num.{Num}
use Rattle.thread_tree.specs.declared.token.Mark.TheVariants as mark
use Rattle.thread_tree.specs.declared.token.Placed.{Placed}
use Rattle.thread_tree.specs.declared.token.Token.{Token}
use Rattle.thread_tree.specs.declared.token.Word.TheVariants as word
use Rattle.thread_tree.specs.declared.tree.Decl.{Decl}
use Rattle.thread_tree.specs.Grammar.{turn, advance, declared, declared_by, Spells, nothing, goes_on, is_mark, is_word, is_name, is_number, mark_number, word_number}
use Rattle.grammar_laws.specs.Open.{bare}
use Rattle.thread_tree.specs.Parts.{Part, TheMark, TheWord, ANumber, Channel, Parameters, Numbers, MoreNumbers, ABlock}
use Rattle.thread_tree.specs.Spelling.{TakesAny, TakesMark, SpellsNumber, Separated, one, more}
use Rattle.thread_tree.specs.SpellingOfDeclarations.{SpellsParameters, no_parameters, parameters, SpellsNumbers, no_numbers, numbers, SpellsChannel, no_channel, channel, SpellsDecl, kind, object, queue, semaphore, function, thread, start, SpellsDecls, no_decls, decls, SpellsProgram}
use Rattle.grammar_laws.proofs.Table.{takes_mark, takes_word, takes_name, takes_number, placed, go}
use Rattle.grammar_laws.proofs.CompleteCalls.{names_end, takes_names}
use Rattle.grammar_laws.proofs.CompleteBlocks.{takes_block}

-- parameters
takes_parameters : {before after : List Placed} {names : List At} → SpellsParameters before after names → (parts : List Part) → Spells parts (bare after) → Spells (Parameters ∷ parts) (bare before)
unfolding turn is_mark mark_number is_name
takes_parameters (no_parameters c) parts s = go refl c s
takes_parameters (parameters (one n) c) parts s = go refl (placed n) (names_end refl (takes_mark c s))
takes_parameters (parameters (more n comma rest) c) parts s = go refl (placed n) (go refl comma (takes_names rest (TheMark mark.CloseParenthesis) parts refl (takes_mark c s)))

-- numbers
close_more : {before after : List Placed} {parts : List Part} → TakesMark mark.CloseParenthesis before after → Spells parts (bare after) → Spells (MoreNumbers ∷ parts) (bare before)
unfolding turn is_mark mark_number
close_more c s = go refl c s

behind_comma : {before a after : List Placed} {ns : List Num} → Separated SpellsNumber before a ns → TakesMark mark.CloseParenthesis a after → (parts : List Part) → Spells parts (bare after) → Spells (ANumber ∷ MoreNumbers ∷ parts) (bare before)
unfolding turn is_mark mark_number
behind_comma (one n) c parts s = takes_number n (close_more c s)
behind_comma (more n comma rest) c parts s = takes_number n (go refl comma (behind_comma rest c parts s))

takes_numbers : {before after : List Placed} {ns : List Num} → SpellsNumbers before after ns → (parts : List Part) → Spells parts (bare after) → Spells (Numbers ∷ parts) (bare before)
unfolding turn is_mark mark_number is_number
takes_numbers (no_numbers c) parts s = go refl c s
takes_numbers (numbers (one n) c) parts s = go refl (placed n) (close_more c s)
takes_numbers (numbers (more n comma rest) c) parts s = go refl (placed n) (go refl comma (behind_comma rest c parts s))

takes_channel : {before after : List Placed} {end : Option Num} → SpellsChannel before after end → (parts : List Part) → Spells parts (bare after) → Spells (Channel ∷ parts) (bare before)
unfolding turn is_mark mark_number is_word word_number
takes_channel (no_channel m) parts s = go refl m s
takes_channel (channel w n m) parts s = go refl w (takes_number n (takes_mark m s))

-- a declaration begins where nothing is owed
begins : {t : Token} {first : List Part} {before after : List Placed} → declared t ≡ Some first → TakesAny t before after → Spells first (bare after) → Spells [] (bare before)
unfolding advance
begins e r s = rw (r.first) (goes_on e s)

takes_decl : {before after : List Placed} {d : Decl} → SpellsDecl before after d → Spells [] (bare after) → Spells [] (bare before)
unfolding declared declared_by
takes_decl (kind w n o fields c) s = begins refl w (takes_name n (takes_mark o (takes_names fields (TheMark mark.CloseBrace) [] refl (takes_mark c s))))
takes_decl (object w n c k m) s = begins refl w (takes_name n (takes_mark c (takes_name k (takes_mark m s))))
takes_decl (queue w n o k c end) s = begins refl w (takes_name n (takes_mark o (takes_number k (takes_mark c (takes_channel end [] s)))))
takes_decl (semaphore w n q a max b m) s = begins refl w (takes_name n (takes_mark q (takes_number a (takes_word max (takes_number b (takes_mark m s))))))
takes_decl (function w n o ps x) s = begins refl w (takes_name n (takes_mark o (takes_parameters ps (ABlock ∷ []) (takes_block x [] s))))
takes_decl (thread w n o ps p k x) s = begins refl w (takes_name n (takes_mark o (takes_parameters ps (TheWord word.Priority ∷ ANumber ∷ ABlock ∷ []) (takes_word p (takes_number k (takes_block x [] s))))))
takes_decl (start w n o ns m) s = begins refl (placed w) (takes_name n (takes_mark o (takes_numbers ns (TheMark mark.Semicolon ∷ []) (takes_mark m s))))

takes_decls : {before after : List Placed} {ds : List Decl} → SpellsDecls before after ds → Spells [] (bare after) → Spells [] (bare before)
takes_decls no_decls s = s
takes_decls (decls d rest) s = takes_decl d (takes_decls rest s)

-- each program is taken
pub complete : (tokens : List Placed) (ds : List Decl) → SpellsProgram tokens ds → Spells [] (bare tokens)
complete tokens ds program = takes_decls program nothing
