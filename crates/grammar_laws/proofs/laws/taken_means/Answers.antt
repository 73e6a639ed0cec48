use Rattle.grammar_laws.proofs.SoundPrograms.{sound, opened}
use Rattle.grammar_laws.proofs.OneRefusal.{one_refused}
use Rattle.grammar_laws.proofs.laws.taken_means.Goals as goal

pub returns : goal.returns
returns c = record { sound = sound; opened = opened; one = one_refused }
