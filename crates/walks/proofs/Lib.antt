pub mod OfTraits
