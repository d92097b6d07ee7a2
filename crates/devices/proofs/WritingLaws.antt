-- A text that is written by several calls, one after the other.
use Rattle.devices.proofs.Names.{◌≡◌, ◌∙◌, ◌++◌, [], ℕ, ap, sym, append_assoc, List, Option, Appends, Appends-trans, AppendsPrefix, Device, HasFailed, WritesText, Appends-nil, Err, Ok, Result, append-nil, refl, subst, IsErrAnd}

-- the text was written but for its last bytes, which are left, and no call failed
pub record HasWrittenBut {T : Type 0} (held : T → Option (List ℕ)) (w w' : Device T) (text left : List ℕ) : Type 0 where
  pub done : List ℕ
  pub is : text ≡ done ++ left
  pub out : Appends (held w.inner) (held w'.inner) done
  pub fine : w'.failures ≡ w.failures
  pub widest : w'.widest ≡ w.widest

pub none_written : {T : Type 0} (held : T → Option (List ℕ)) (w : Device T) (text : List ℕ) → HasWrittenBut held w w text text
none_written held w text = record { done = []; is = refl; out = Appends-nil (held w.inner); fine = refl; widest = refl }

-- one more call
pub more_written : {T A E : Type 0} {held : T → Option (List ℕ)} {a b c : Device T} {text left line next rest : List ℕ} {x : A} → HasWrittenBut held a b text left → left ≡ line ++ rest → next ≡ line
    → WritesText {E = E} (Ok x) held b c next → HasWrittenBut held a c text rest
more_written {held = held} {a} {b} {c} {next = next} {rest} before is same w = record {
  done = before.done ++ next;
  is = before.is ∙ ap (λ l. before.done ++ l) (is ∙ ap (λ l. l ++ rest) (sym same)) ∙ sym (append_assoc before.done next rest);
  out = Appends-trans (held a.inner) (held b.inner) (held c.inner) before.done next before.out w.whole;
  fine = w.device.1 ∙ before.fine;
  widest = w.device.2 ∙ before.widest;
}

more_part : (a b c : Option (List ℕ)) {text left : List ℕ} (done next rest : List ℕ) → text ≡ done ++ left → left ≡ next ++ rest → Appends a b done → AppendsPrefix b c next → AppendsPrefix a c text
more_part a b c done next rest is split out (unsent, (sent, is_sent, went)) = (
  unsent ++ rest,
  (
    done ++ sent,
    is ∙ ap (λ l. done ++ l) (split ∙ ap (λ l. l ++ rest) is_sent ∙ append_assoc sent unsent rest) ∙ sym (append_assoc done sent (unsent ++ rest)),
    Appends-trans a b c done sent out went,
  ),
)

-- the call that failed
pub part_written : {T A B E F : Type 0} {held : T → Option (List ℕ)} {a b c : Device T} {text left line next : List ℕ} {fault : F} (rest : List ℕ) (Q : E → Type 0) (r : Result A E) → IsErrAnd r Q
    → HasWrittenBut held a b text left → left ≡ line ++ rest → next ≡ line → WritesText {A = B} (Err fault) held b c next → WritesText r held a c text
part_written rest Q (Ok x) failed before is same w = absurd failed
part_written {held = held} {a} {b} {c} {next = next} rest Q (Err e) failed before is same w = record {
  whole = tt;
  part = more_part (held a.inner) (held b.inner) (held c.inner) before.done next rest before.is (is ∙ ap (λ l. l ++ rest) (sym same)) before.out w.part;
  device = (subst (λ (n : ℕ). HasFailed n c.failures) before.fine w.device.0, tt, w.device.2 ∙ before.widest);
}

-- no call is left
pub all_written : {T A E : Type 0} {held : T → Option (List ℕ)} {a b : Device T} {text : List ℕ} {x : A} → HasWrittenBut held a b text [] → WritesText {E = E} (Ok x) held a b text
all_written {held = held} {a} {b} h = record { whole = subst (λ (l : List ℕ). Appends (held a.inner) (held b.inner) l) (sym (h.is ∙ append-nil h.done)) h.out; part = tt; device = (tt, h.fine, h.widest) }
