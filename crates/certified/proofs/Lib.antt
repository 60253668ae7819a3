pub mod OnE
