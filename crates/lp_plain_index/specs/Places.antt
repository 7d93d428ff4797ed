-- The first places of numbers in a list, by the words of the crate below.
pub use Rattle.lp_places.specs.Places.{has_number, place_of_number}
