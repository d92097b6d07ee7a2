-- A conversion that is stopped by a fault.
use Rattle.rtcm_command.proofs.Names.{arith, common_steps, ⊤, AreUntouched, Devices, Writer, EndsConverting, culprit, IsErrAnd, passed, ◌≡◌, sym, subst, refl, ℕ, ℤ, List, Option, Some, None, Result, Err, IsErrOf, IfSome, inl, inr, ◌≢◌, ◌↔◌, IsSentAfter, IsSetupFault, IsMadeEmpty, IsMadeSoFar, IsMadeInPart, IsMadeToLimit, IsBad, Setup, Fault, BadSetup, TooLong, Read, Write, Failed, Finished, Report, CommandFault, Row, StationValues, values_by, HasSetupFault, IsRefusedAfterStart, IsRefusedAfterChannels, IsSetupRefused, IsStartFault, IsStartSet, Start, codes, first_of, values_set, StopsConversion, HaveFailedBy, ChannelsValue, ok_or, channels_set, IsOfNone}
use Rattle.rtcm_command.proofs.OptionLemmas.{bad_choice}
use Rattle.command_faults.specs.declared.fault.CommandFault.TheVariants as faults

abbrev Result-of : Fault → Result Report Fault
Result-of fault = Err fault

-- what a conversion that returned this fault did
pub record Faulted {R W : Type 0} (x : Setup) (d d2 : Devices R W) (fault : Fault) : Type 0 where
  pub sent : IsSentAfter (Result-of fault) d.writer.waiting d2.writer.waiting
  pub empty : (given : Fault) → IsOfNone given → IsErrOf (Result-of fault) given → IfSome d.reader.unread (IsMadeEmpty x given d.writer.written d2.writer.written)
  pub long : IsErrOf (Result-of fault) TooLong → IsMadeToLimit x d.reader.unread d2.reader.unread d.writer.written d2.writer.written
  pub read : IsErrOf (Result-of fault) Read → IsMadeSoFar x d.reader.unread d2.reader.unread d.writer.written d2.writer.written
  pub write : IsErrOf (Result-of fault) Write → IsMadeInPart x d.reader.unread d2.reader.unread d.writer.written d2.writer.written
  pub bad : Result-of fault ≡ Err BadSetup ↔ IsBad x
  pub untouched : IsSetupFault fault → AreUntouched d d2
  pub only : (Result-of fault ≢ Err Failed) × (Result-of fault ≢ Err Finished)

pub conversion_stopped : {R W : Type 0} {x : Setup} {d d2 : Devices R W} (fault : Fault) → Faulted x d d2 fault → StopsConversion x d d2 fault
conversion_stopped fault s = grind (arith, common_steps)

-- a bad setup is the fault of the conversion and of the command
pub given_bad : (fault : Fault) (Bad : Type 0) → (◌≡◌ {A = Result Report Fault} (Err fault) (Err BadSetup) ↔ Bad)
    → (◌≡◌ {A = Result Report CommandFault} (Err (faults.Convert fault)) (Err (faults.Convert BadSetup)) ↔ Bad)
given_bad fault Bad bad = grind (arith, common_steps)

-- ---- a fault of the options, before which nothing is read or written

module _ {R W : Type 0} (d : Devices R W) (options : List Row) where
  abbrev HasNoneFailed : CommandFault → Type 0
  HasNoneFailed e = HaveFailedBy (culprit e) d d

  none_failed : (e : CommandFault) → IsSetupRefused options e → HasNoneFailed e
  none_failed e (inl bad) = no_start (first_of (codes "week") options) (first_of (codes "near") options) bad where
    no_start : (week near : Option (List ℕ)) → IsStartFault week near e → HasNoneFailed e
    no_start (Some text) None h = subst HasNoneFailed (sym h.0) (refl, refl)
    no_start None (Some text) h = subst HasNoneFailed (sym h.0) (refl, refl)
    no_start None None h = subst HasNoneFailed (sym h) (refl, refl)
    no_start (Some text) (Some date) h = subst HasNoneFailed (sym h) (refl, refl)
  none_failed e (inr (start, set, first)) = by _ _ _ first where
    made : (e : CommandFault) → HasSetupFault options e → HasNoneFailed e
    made (faults.Header f) h = (refl, refl)
    made (faults.Plan f) h = (refl, refl)
    made other h = absurd h

    last : IsRefusedAfterChannels options e → HasNoneFailed e
    last (inl choice) = bad_choice HasNoneFailed (λ o. (refl, refl)) (refl, refl) (refl, refl) (refl, refl) options e choice
    last (inr (choice, is, fault)) = made e fault

    by : (p : Option (ℤ × ℤ × ℤ)) (h : Option ℕ) (c : Option ChannelsValue) → IsRefusedAfterStart (values_by p h) (ok_or c faults.BadChannels) options e → HasNoneFailed e
    by (Some (x, y, z)) (Some h) (Some c) is = last is
    by p h c is = subst HasNoneFailed (sym is) (refl, refl)

  pub ends_refused : {E : Type 0} (ended : Result ⊤ CommandFault) (fault : CommandFault) (e : Writer E) → IsErrAnd ended (λ y. y ≡ fault) → IsSetupRefused options fault → EndsConverting ended options e e d d
  ends_refused ended fault e is refused = grind (arith, common_steps, passed, none_failed)

-- the first fault after a valid start, of results that are known
pub first_fault : {values : Result StationValues CommandFault} {channels : Result ChannelsValue CommandFault} (fault : CommandFault) (options : List Row) (start : Start) → IsStartSet options start → values_set options ≡ values → channels_set options ≡ channels
    → IsRefusedAfterStart values channels options fault → IsSetupRefused options fault
first_fault {values} {channels} fault options start set is are h = inr (start, set, subst (λ (c : Result ChannelsValue CommandFault). IsRefusedAfterStart (values_set options) c options fault) (sym are) (subst (λ (v : Result StationValues CommandFault). IsRefusedAfterStart v channels options fault) (sym is) h))
