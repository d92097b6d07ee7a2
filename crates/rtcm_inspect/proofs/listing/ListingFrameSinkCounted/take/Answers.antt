use Rattle.rtcm_inspect.proofs.Names.{◌⊎◌, ap, sym, refl, ◌≡◌, inl, inr, Bool, false, Framed, framed, Listing, listing_line, show_line}
use Rattle.rtcm_inspect.proofs.ListingLemmas.{part_line}
use Rattle.rtcm_inspect.specs.declared.listing.Listing.TheVariants.{Messages, AllMessages}
use Rattle.rtcm_inspect.proofs.listing.ListingFrameSinkCounted.take.Goals.{in-AllMessages, in_default}
use Rattle.rtcm_inspect.proofs.listing.ListingFrameSinkCounted.take.Goals as goal

pub returns-in-Frames-clause-part : goal.returns-in-Frames-clause-part
returns-in-Frames-clause-part g c =
    part_line c.args.self.now (framed c.args.frame.now) c.write_frame.result
    (ap (λ (k : Listing). listing_line k (framed c.args.frame.now)) (sym c.in-Frames.is)) c.write_frame.ensures

-- those of messages alone
of_messages : (k : Listing) (f : Framed) {b : Bool} → b ≡ false → (k ≡ Messages) ⊎ (k ≡ AllMessages) → (k ≡ AllMessages → ⊥) → show_line b f ≡ listing_line k f
of_messages k f b (inl is) other = rw (b, is) refl
of_messages k f b (inr is) other = absurd (other is)

pub returns-after-matches-clause-part : goal.returns-after-matches-clause-part
returns-after-matches-clause-part g c =
    let f = framed c.args.frame.now in
    let line : show_line c.match-matches.matches f ≡ listing_line c.args.self.now f = elim c.match-matches.branch [
      | in-AllMessages w ↦ rw (w.matches-is, w.in-AllMessages.is) refl
      | in_default w ↦ of_messages c.args.self.now f w.matches-is c.in-Messages.is w.in_default.not-AllMessages
    ] in
    part_line c.args.self.now f c.write_any.result line c.write_any.ensures
