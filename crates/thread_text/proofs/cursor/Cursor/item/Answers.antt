use Rattle.std.proofs.Common.{◌≡◌, ◌∙◌, Some, ap, sym, rules}
use Rattle.std.specs.Option.{option_copied}
use Rattle.thread_tree.specs.SpellingOfCalls.{text, value}
use Rattle.thread_text.specs.Fate.{next_of}
use Rattle.thread_text.specs.Kinds.{text_in}
use Rattle.thread_text.proofs.Taken.{text_took}
use Rattle.thread_text.proofs.cursor.Cursor.item.Goals as goal

pub returns-in-Some-clause-tree : goal.returns-in-Some-clause-tree
returns-in-Some-clause-tree c = let h : next_of text_in c.args.self.now ≡ Some c.copied-text.result = sym c.text_ahead.ensures.value ∙ (ap (λ o. option_copied o) c.in-Some.is ∙ ap (λ x. Some x) (sym c.copied-text.ensures.value)) in text (text_took c.args.self.now _ _ _ h c.skip-place.ensures.taken)

pub returns-clause-tree : goal.returns-clause-tree
returns-clause-tree c = search (rules, value)
