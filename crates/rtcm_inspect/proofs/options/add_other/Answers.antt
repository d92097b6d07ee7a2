use Rattle.rtcm_inspect.proofs.SignalLemmas.{decodes_had}
use Rattle.rtcm_inspect.proofs.Names.{words_after, ◌≡◌, ◌∙◌, ◌&&◌, ◌++◌, ◌∷◌, [], ℕ, Bool, true, false, ChannelsValue, List, Option, append-nil, ap, ap₂, arith, codes, further_words, if◌then◌else◌, length, nat_lt, not, refl, sym, codes_word, had, plan_had, System, with_words, HeardCell, name_of, value_tabulated, is_nil, is_always_decoded, other_words}
use Rattle.gnss_system.specs.declared.system.System.TheVariants as system
use Rattle.rtcm_inspect.proofs.options.add_other.Goals as goal

some_signal : (is : List ℕ) → nat_lt 0 (length is) ≡ true → is_nil is ≡ false
some_signal [] h = absurd (grind (arith, h))
some_signal (i ∷ is) h = refl

-- the plan has the channels if GLONASS has a signal
own_channels : (leap : Option ℕ) (cells : List HeardCell) (channels : ChannelsValue) (s : System) → nat_lt 0 (length (had cells s)) ≡ true
    → further_words leap (plan_had cells channels).channels s ≡ further_words leap channels s
own_channels leap cells channels system.Glonass some = rw (some_signal (had cells system.Glonass) some) refl
own_channels leap cells channels other some = refl

-- no word, or the option of its signals and the further ones
shown : (leap : Option ℕ) (cells : List HeardCell) (channels : ChannelsValue) (s : System) (b c : Bool) → is_always_decoded s ≡ b → nat_lt 0 (length (had cells s)) ≡ c
    → other_words leap (plan_had cells channels) s ≡ (if not b && c then (codes "--" ++ name_of s) ∷ codes_word s (had cells s) ∷ further_words leap channels s else [])
shown leap cells channels s b true always some = rw (value_tabulated s (had cells), always, some, own_channels leap cells channels s some) refl
shown leap cells channels s b false always some = rw (value_tabulated s (had cells), always, some) (none b) where
  none : (b : Bool) → (if not b && false then (codes "--" ++ name_of s) ∷ codes_word s (had cells s) ∷ further_words leap (plan_had cells channels).channels s else [])
      ≡ (if not b && false then (codes "--" ++ name_of s) ∷ codes_word s (had cells s) ∷ further_words leap channels s else [])
  none true = refl
  none false = refl

pub returns-then-not-has_signal-clause-text : goal.returns-then-not-has_signal-clause-text
returns-then-not-has_signal-clause-text c = λ cells h.
    let s = c.args.signals.now in
    let none = sym (decodes_had s.signal_counts cells h c.args.system) ∙ sym c.has_signal.ensures ∙ c.if-not-has_signal.true in
    ap (with_words c.args.text.now.items) (sym (shown c.args.leap cells s.channels c.args.system false false (sym c.is_always_decoded.ensures ∙ c.if-is_always_decoded.false) none))

pub returns-clause-text : goal.returns-clause-text
returns-clause-text c = λ cells h.
    let signals = c.args.signals.now in
    let s = c.args.system in
    let old = c.args.text.now.items in
    let some = sym (decodes_had signals.signal_counts cells h s) ∙ sym c.has_signal.ensures ∙ c.if-not-has_signal.false in
    let further = further_words c.args.leap signals.channels s in
    let words : List (List ℕ) = (codes "--" ++ name_of s) ∷ codes_word s (had cells s) ∷ further in
    let start = c.put-2.ensures ∙ ap₂ (λ (a b : List ℕ). a ++ b) (c.put.ensures ∙ ap (λ (l : List ℕ). l ++ codes " --") c.new-line.ensures) (c.as_bytes.ensures.value ∙ c.name.ensures.text) in
    let line = c.add_further.ensures.text ∙ ap (λ (l : List ℕ). with_words l further) (c.add_codes.ensures.text cells h ∙ ap (λ (l : List ℕ). l ++ 0x20 ∷ codes_word s (had cells s)) start) in
    c.put_line.ensures ∙ ap (λ (l : List ℕ). old ++ l) line ∙ words_after old [] words ∙ ap (λ (l : List ℕ). with_words l words) (append-nil old)
    ∙ ap (with_words old) (sym (shown c.args.leap cells signals.channels s false true (sym c.is_always_decoded.ensures ∙ c.if-is_always_decoded.false) some))
