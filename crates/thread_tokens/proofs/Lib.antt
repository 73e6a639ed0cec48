pub mod Callers
mod ByteLemmas
mod FormLemmas
mod Lists
mod PieceLemmas
mod ScanLemmas
mod ScanOrder
mod SpelledLemmas
mod SpelledScan
