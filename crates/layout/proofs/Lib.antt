pub mod Images
pub mod OutcomeImage
pub mod RoundTrip
