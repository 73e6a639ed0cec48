mod KernelLaws
mod RunLaws
