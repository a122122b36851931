pub mod MalformedLines
