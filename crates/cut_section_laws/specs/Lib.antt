pub mod LaidSections
pub mod SectionCuts
pub mod WrittenCuts
