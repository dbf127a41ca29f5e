pub mod Normal
pub mod Same
pub mod Laws
