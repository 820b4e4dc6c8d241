pub mod PlainUris
