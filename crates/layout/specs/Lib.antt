pub mod Layout
pub mod OutcomeImage
pub mod RoundTrip
