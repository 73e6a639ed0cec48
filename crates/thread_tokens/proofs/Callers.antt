-- What the crates above may cite of these proofs.
pub use Rattle.thread_tokens.proofs.ScanOrder.{scan_orderly}
pub use Rattle.thread_tokens.proofs.SpelledScan.{scans_back}
