-- A cell's centre as the code holds it.
-- Assumes nothing.
use Rattle.meaning.specs.Site.{Centre}
use Rattle.site_read.specs.declared.Centre as Read

abbrev pub centre_read : Centre → Read.Centre
centre_read c = record { x = c.x; y = c.y }
