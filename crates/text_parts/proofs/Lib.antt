pub mod Options
pub mod Searching
pub mod WordTexts
pub mod CutTexts
pub mod NumberTexts
pub mod ByteTexts
pub mod PlaceLaws
pub mod Printed
