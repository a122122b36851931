-- What follows from the definitions.
pub mod RunLaws
pub mod TextLaws
pub mod StrictStoreLaws
pub mod UnseenLaws
