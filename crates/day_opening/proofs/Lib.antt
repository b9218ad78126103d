mod OpeningLaws
