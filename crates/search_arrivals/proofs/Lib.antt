mod WordLaws
mod SweepLaws
