mod Bytes
mod Images
