pub mod Callers
mod BlockLaws
mod EventLaws
mod FrameLaws
mod HoldLaws
mod KernelLaws
mod PutLaws
mod ResultLaws
mod ServingLaws
