-- What the crates above may cite of these proofs.
pub use Rattle.kernel_model.proofs.DumpLemmas.{text_of-append, lines_with-other, console_lines-newline, dump-parts}
pub use Rattle.kernel_model.proofs.ActLemmas.{ahead-before, ready-activity, arrived-sound, counted-sound}
pub use Rattle.kernel_model.proofs.RunLaws.{run-sound}
pub use Rattle.kernel_model.proofs.StepLaws.{step-nobody, step-finished, step-watchdog, step-no_room, step-acted}
pub use Rattle.kernel_model.proofs.WrittenLemmas.{IsWrittenState, birth-written, ahead-written, bind-written, arrival-written, relived-arrival}
pub use Rattle.kernel_model.proofs.SpotLemmas.{both-All}
pub use Rattle.kernel_model.proofs.StartLemmas.{found}
pub use Rattle.kernel_model.proofs.OrderLemmas.{threads_from}
pub use Rattle.kernel_model.proofs.RowLemmas.{live_in-Some, live_within, live_past, changed-is, other_thread, set_thread}
pub use Rattle.kernel_model.proofs.ServeLemmas.{behind-other}
pub use Rattle.kernel_model.proofs.ChangeLaws.{set-set, rows-length, row-own, row-other, with_row-again, changed-own, changed-other, behind-own, behind-is, finish-own, stops-is, stops-changed, goes-own, equals-some, equals-none}
pub use Rattle.kernel_model.proofs.WakingLaws.{fold-range_more, woken-other}
pub use Rattle.kernel_model.proofs.ObjectLemmas.{new-laid, new-sound, without-none, without-sound}
pub use Rattle.kernel_model.proofs.PlaceLaws.{least-free, least-first, least-even}
