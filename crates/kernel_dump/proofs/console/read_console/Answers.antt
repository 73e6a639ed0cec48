use Rattle.std.proofs.Common.{ℕ, List, [], ◌∷◌, ◌++◌, ◌<◌, ◌≤◌, length, take, ap, sym, ◌∙◌, arith}
use Rattle.std.proofs.lemmas.List.{take_more, take_all}
use Rattle.kernel_image.specs.Decoded.{image_in}
use Rattle.console_store.specs.Console.{bytes_in}
use Rattle.kernel_dump.proofs.ConsoleBytes.{byte_at, bytes_count}
use Rattle.kernel_dump.proofs.console.read_console.Goals as goal

pub loop-at-preserved : goal.loop-at-preserved
loop-at-preserved g c =
    let d = image_in (g.W.Words.present c.args.words.now) in
    let at = c.loop-at.at in
    let low : at < d.console_length = omega (arith, c.loop-at-test.true, c.length-at-end.ensures.length) in
    let within : at < length (bytes_in d) = omega (arith, low, bytes_count d) in
    record {
      len = omega (arith, c.push.ensures.len, c.loop-at.invariant.len);
      read =
          c.push.ensures.items ∙ ap (λ (xs : List ℕ). xs ++ c.byte.result ∷ []) c.loop-at.invariant.read
          ∙ ap (λ (b : ℕ). take at (bytes_in d) ++ b ∷ []) (c.byte.ensures.byte ∙ sym (byte_at d at low))
          ∙ sym (take_more (bytes_in d) at 0 within);
    }

pub returns : goal.returns
returns g c =
    let d = image_in (g.W.Words.present c.args.words.now) in
    let all : length (bytes_in d) ≤ c.loop-at.at = omega (arith, c.loop-at-test.false, c.length-at-end.ensures.length, bytes_count d) in
    record { bytes = c.loop-at.invariant.read ∙ take_all c.loop-at.at (bytes_in d) all }
