-- The bytes of the texts that the caller passes.
use Rattle.std.specs.Prelude.{[], ◌∷◌}
use Rattle.rinex_file.specs.declared.header.texts.Texts.{Texts}
use Rattle.rinex_file.specs.Texts.{HeaderLists}

abbrev pub lists_of : Texts → HeaderLists
lists_of t =
    t.run_by.now ∷ t.date.now ∷ t.comment.now ∷ t.marker.now ∷ t.marker_number.now ∷ t.marker_type.now ∷ t.observer.now
    ∷ t.agency.now ∷ t.rec_number.now ∷ t.rec_type.now ∷ t.rec_version.now ∷ t.ant_number.now ∷ t.ant_type.now ∷ []
