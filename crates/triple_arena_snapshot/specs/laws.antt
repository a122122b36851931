pub mod ChecksumLaws
pub mod ChangeLaws
pub mod CodingLaws
pub mod FloatLaws
pub mod ArrayLaws
pub mod MapLaws
pub mod FileLaws
pub mod ArenaCodingLaws
