use Rattle.std.proofs.Common.{◌∙◌, sym, length, take, drop, ◌-◌}
use Rattle.std.proofs.lemmas.List.{take_rest}
use Rattle.thread_tokens.proofs.PieceLemmas.{piece-closed, piece-open}
use Rattle.thread_tokens.proofs.lexeme.string.Goals as goal

pub returns-then-not-begins_with_quote : goal.returns-then-not-begins_with_quote
returns-then-not-begins_with_quote c =
    let text = c.args.text.now in
    let rest = take (length text - 1) (drop 1 text) in
    let n = c.string_length-length.result in
    let stops = rw (take_rest rest n) at (sym c.if-not-begins_with_quote.ensures.same) in
    record { same = piece-open text rest n (take_rest text 1) c.requires.unseparated c.requires.quote c.string_length-length.ensures.same stops }

pub returns : goal.returns
returns c =
    let text = c.args.text.now in
    let rest = take (length text - 1) (drop 1 text) in
    let n = c.string_length-length.result in
    let closes = rw (take_rest rest n) at (sym c.if-not-begins_with_quote.ensures.same) in
    record { same = c.quoted.ensures.same ∙ piece-closed text rest n (take_rest text 1) c.requires.unseparated c.requires.quote c.string_length-length.ensures.same closes }
