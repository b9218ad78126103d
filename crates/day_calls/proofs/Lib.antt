mod AreaLaws
mod Laws
