pub mod CodeKeys
pub mod CodeReading
pub mod CodeWriting
