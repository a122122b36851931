-- What follows from the definitions.
pub mod DirectSlotLaws
pub mod DirectStepLaws
pub mod DirectInsertionLaws
pub mod DirectCloningLaws
pub mod DirectCompressionLaws
