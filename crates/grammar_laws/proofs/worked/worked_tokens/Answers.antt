use Rattle.std.proofs.Common.{refl}
use Rattle.thread_tree.specs.Grammar.{advance, declared, declared_by, turn, operand, behind_name, statement, stated_by, call_end, is_mark, mark_number, is_word, word_number, is_name, is_number, is_prefix, is_between, prefixes}
use Rattle.thread_tree.specs.Pieces.{shape}
use Rattle.thread_tree.specs.Spelling.{one}
use Rattle.thread_tree.specs.SpellingOfDeclarations.{numbers, start, no_decls, decls}
use Rattle.grammar_laws.proofs.worked.worked_tokens.Goals as goal

pub returns : goal.returns
unfolding advance declared declared_by turn operand behind_name statement stated_by shape call_end is_mark mark_number is_word word_number is_name is_number is_prefix is_between prefixes
returns c = record {
  taken = refl;
  spelled = decls (start (record { first = refl }) (record { first = refl }) (record { place = _; first = refl }) (numbers (one (record { first = refl })) (record { place = _; first = refl })) (record { place = _; first = refl })) no_decls;
  refused = refl;
  sent = refl;
  short = refl;
  together = refl;
}
