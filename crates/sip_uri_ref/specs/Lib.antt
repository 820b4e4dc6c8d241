pub mod PlainUri
pub mod UriForm
