-- What the clauses of users say.
pub mod Circuit
pub mod Coupons
pub mod SetPoints
