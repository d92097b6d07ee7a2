-- The values that the words of the printed options give.
use Rattle.std.proofs.lemmas.Grind.{common_steps}
use Rattle.rtcm_command.proofs.Names.{◌&&◌, ◌∷◌, ◌++◌, false, flat_map, if◌then◌else◌, nat_lt, option_and_then, true, option_or, append_assoc, append-nil, System, Gps, Galileo, Glonass, Beidou, Qzss, Sbas, name_of, PlanValue, planned_of, Forms, StationParts, is_always_decoded, is_decoded, channels_text, antenna_words, channel_words, forms_words, further_words, number_words, option_words, other_words, position_word, station_words, codes_word, first_of, one_of, first_station, forms_had, plan_in, Framed, HaveValues, after_prefix, default_of, given, has_equals, printed_words, ChannelsValue, IfSome, Row, text_set, subst, bytes_eq, height_text, not, position_text, option_map_or, ◌≡◌, Bool, List, None, Option, Some, [], ap, codes, decimal, length, option_map, refl, sym, unwrap_or, ℕ, ◌∙◌, arith}
use Rattle.gnss_system.specs.Systems.{systems}
use Rattle.rtcm_msg.specs.declared.number.Forms.TheVariants as forms
use Rattle.command_line.specs.CommandLine as rules

-- the signals of a system: those printed, which are of GPS, of Galileo and of a system with a signal; else the default
abbrev pub signals_text : PlanValue → System → List ℕ
signals_text p s = if is_decoded p s then codes_word s (planned_of s p) else codes "none"

-- the channels, which are printed with signals of GLONASS; else the default
abbrev pub channels_option : PlanValue → List ℕ
channels_option p = if is_decoded p Glonass then channels_text p.channels else []

-- the leap seconds, which are printed with signals of GLONASS
abbrev pub leap_text : (leap : Option ℕ) → PlanValue → Option (List ℕ)
leap_text leap p = if is_decoded p Glonass then option_map decimal leap else None

-- the forms, of which all are printed; else the default
abbrev pub forms_text : Forms → List ℕ
forms_text forms.FourAndSeven = codes "4,7"
forms_text forms.All = codes "all"

-- the options by the values that their words give
pub record AreAsPrinted (options : List Row) (w leap wanted : Option ℕ) (fs : List Framed) : Type 0 where
  pub week : IfSome w (λ n. first_of (codes "week") options ≡ Some (decimal n))
  pub station : one_of (codes "station") options ≡ option_map decimal wanted
  pub signals : (s : System) → text_set options (name_of s) ≡ signals_text (plan_in wanted fs) s
  pub channels : text_set options (codes "glonass-channels") ≡ channels_option (plan_in wanted fs)
  pub leap_seconds : one_of (codes "leap-seconds") options ≡ leap_text leap (plan_in wanted fs)
  pub forms : text_set options (codes "msm") ≡ forms_text (forms_had wanted fs)
  pub position : text_set options (codes "position") ≡ option_map_or position_text (first_station wanted fs) (codes "0,0,0")
  pub height : text_set options (codes "antenna-height") ≡ height_text (option_and_then (λ s. s.height) (first_station wanted fs))

-- ---- words in turn: xs give o, and the rest what they give

abbrev Has : List ℕ → List (List ℕ) → Option (List ℕ) → Type 0
Has name xs o = (rest : List (List ℕ)) → given name (xs ++ rest) ≡ option_or o (given name rest)

or_assoc : (a b c : Option (List ℕ)) → option_or a (option_or b c) ≡ option_or (option_or a b) c
or_assoc None b c = refl
or_assoc (Some x) b c = refl

or_none : (a : Option (List ℕ)) → option_or a None ≡ a
or_none None = refl
or_none (Some x) = refl

join_has : (name : List ℕ) (xs ys : List (List ℕ)) (a b : Option (List ℕ)) → Has name xs a → Has name ys b → Has name (xs ++ ys) (option_or a b)
join_has name xs ys a b x y = λ rest. ap (given name) (append_assoc xs ys rest) ∙ x (ys ++ rest) ∙ ap (option_or a) (y rest) ∙ or_assoc a b (given name rest)

-- what the option of a word gives: o, if it is the one that is asked for
abbrev of_word : (word name : List ℕ) → Option (List ℕ) → Option (List ℕ)
of_word word name o = if bytes_eq word (codes "--" ++ name) then o else None

no_word : (word name : List ℕ) → Has name [] (of_word word name None)
no_word word name = grind (arith, common_steps)

choose : (b : Bool) (v : List ℕ) (o : Option (List ℕ)) → (if b then Some v else o) ≡ option_or (if b then Some v else None) o
choose true v o = refl
choose false v o = refl

pair_has : (name w v : List ℕ) → has_equals w ≡ false → Has name (w ∷ v ∷ []) (of_word w name (Some v))
pair_has name w v e = grind (arith, common_steps, choose)

word_has : (name w : List ℕ) → has_equals w ≡ true → Has name (w ∷ []) (after_prefix (codes "--" ++ (name ++ codes "=")) w)
word_has name w e [] = grind (arith, common_steps, or_none)
word_has name w e (v ∷ rest) = grind (arith, common_steps)

-- ---- the words of the options

number_has : (name word : List ℕ) (n : Option ℕ) → has_equals word ≡ false → Has name (number_words word n) (of_word word name (option_map decimal n))
number_has name word None e = no_word word name
number_has name word (Some n) e = pair_has name word (decimal n) e

abbrev some_text : List ℕ → Option (List ℕ)
some_text [] = None
some_text (b ∷ bs) = Some (b ∷ bs)

channel_has : (name text : List ℕ) → Has name (channel_words text) (of_word (codes "--glonass-channels") name (some_text text))
channel_has name [] = no_word (codes "--glonass-channels") name
channel_has name (b ∷ bs) = pair_has name (codes "--glonass-channels") (b ∷ bs) refl

abbrev further_value : (name : List ℕ) (channels leap : Option (List ℕ)) → System → Option (List ℕ)
further_value name channels leap Glonass = option_or (of_word (codes "--glonass-channels") name channels) (of_word (codes "--leap-seconds") name leap)
further_value name channels leap other = None

further_has : (name : List ℕ) (leap : Option ℕ) (channels : ChannelsValue) (s : System) → Has name (further_words leap channels s) (further_value name (some_text (channels_text channels)) (option_map decimal leap) s)
further_has name leap channels Glonass =
    join_has name (channel_words (channels_text channels)) (number_words (codes "--leap-seconds") leap) _ _ (channel_has name (channels_text channels)) (number_has name (codes "--leap-seconds") leap refl)
further_has name leap channels other = λ rest. refl

no_further : (name : List ℕ) (s : System) → Has name [] (further_value name None None s)
no_further name Glonass = join_has name [] [] _ _ (no_word (codes "--glonass-channels") name) (no_word (codes "--leap-seconds") name)
no_further name other = λ rest. refl

no_equals : (s : System) → has_equals (codes "--" ++ name_of s) ≡ false
no_equals Gps = refl
no_equals Galileo = refl
no_equals Glonass = refl
no_equals Beidou = refl
no_equals Qzss = refl
no_equals Sbas = refl

-- whether the signals of a system other than GPS and Galileo are printed
abbrev is_printed : PlanValue → System → Bool
is_printed p s = not (is_always_decoded s) && nat_lt 0 (length (planned_of s p))

abbrev other_value : (name : List ℕ) (leap : Option ℕ) → PlanValue → System → (printed : Bool) → Option (List ℕ)
other_value name leap p s printed = option_or (of_word (codes "--" ++ name_of s) name (if printed then Some (codes_word s (planned_of s p)) else None))
    (further_value name (if printed then some_text (channels_text p.channels) else None) (if printed then option_map decimal leap else None) s)

other_has : (name : List ℕ) (leap : Option ℕ) (p : PlanValue) (s : System) → Has name (other_words leap p s) (other_value name leap p s (is_printed p s))
other_has name leap p s = by (is_printed p s) where
  by : (b : Bool) → Has name (if b then (codes "--" ++ name_of s) ∷ codes_word s (planned_of s p) ∷ further_words leap p.channels s else []) (other_value name leap p s b)
  by true =
      join_has name ((codes "--" ++ name_of s) ∷ codes_word s (planned_of s p) ∷ []) (further_words leap p.channels s) _ _
      (pair_has name (codes "--" ++ name_of s) (codes_word s (planned_of s p)) (no_equals s)) (further_has name leap p.channels s)
  by false = join_has name [] [] _ _ (no_word (codes "--" ++ name_of s) name) (no_further name s)

abbrev others_value : (name : List ℕ) (leap : Option ℕ) → PlanValue → List System → Option (List ℕ)
others_value name leap p [] = None
others_value name leap p (s ∷ ss) = option_or (other_value name leap p s (is_printed p s)) (others_value name leap p ss)

others_have : (name : List ℕ) (leap : Option ℕ) (p : PlanValue) (ss : List System) → Has name (flat_map (other_words leap p) ss) (others_value name leap p ss)
others_have name leap p [] = λ rest. refl
others_have name leap p (s ∷ ss) = join_has name (other_words leap p s) (flat_map (other_words leap p) ss) _ _ (other_has name leap p s) (others_have name leap p ss)

abbrev forms_option : Forms → Option (List ℕ)
forms_option forms.FourAndSeven = None
forms_option forms.All = Some (codes "all")

forms_have : (name : List ℕ) (f : Forms) → Has name (forms_words f) (of_word (codes "--msm") name (forms_option f))
forms_have name forms.FourAndSeven = no_word (codes "--msm") name
forms_have name forms.All = pair_has name (codes "--msm") (codes "all") refl

abbrev height_option : Option ℕ → Option (List ℕ)
height_option h = option_map (λ h. height_text (Some h)) h

antenna_has : (name : List ℕ) (h : Option ℕ) → Has name (antenna_words h) (of_word (codes "--antenna-height") name (height_option h))
antenna_has name None = no_word (codes "--antenna-height") name
antenna_has name (Some h) = pair_has name (codes "--antenna-height") (height_text (Some h)) refl

abbrev position_value : List ℕ → Option StationParts → Option (List ℕ)
position_value name first = option_and_then (λ s. after_prefix (codes "--" ++ (name ++ codes "=")) (position_word s)) first

abbrev height_value : List ℕ → Option StationParts → Option (List ℕ)
height_value name first = of_word (codes "--antenna-height") name (height_option (option_and_then (λ s. s.height) first))

station_has : (name : List ℕ) (first : Option StationParts) → Has name (station_words first) (option_or (position_value name first) (height_value name first))
station_has name None = no_word (codes "--antenna-height") name
station_has name (Some s) = join_has name (position_word s ∷ []) (antenna_words s.height) _ _ (word_has name (position_word s) refl) (antenna_has name s.height)

-- ---- all words

module _ (w leap st : Option ℕ) (p : PlanValue) (f : Forms) (first : Option StationParts) where
  abbrev words : List (List ℕ)
  words = option_words w leap st p f first

  -- what they give for an option, by what the word of the position gives
  abbrev found : (name : List ℕ) (position : Option (List ℕ)) → Option (List ℕ)
  found name position =
      option_or (of_word (codes "--week") name (option_map decimal w)) (option_or (of_word (codes "--station") name (option_map decimal st))
      (option_or (of_word (codes "--gps") name (Some (codes_word Gps p.signals.gps))) (option_or (of_word (codes "--galileo") name (Some (codes_word Galileo p.signals.galileo)))
      (option_or (others_value name leap p systems) (option_or (of_word (codes "--msm") name (forms_option f)) (option_or position (height_value name first)))))))

  words_give : (name : List ℕ) → given name words ≡ found name (position_value name first)
  words_give name =
      let last = join_has name (forms_words f) (station_words first) _ _ (forms_have name f) (station_has name first) in
      let rest = join_has name (flat_map (other_words leap p) systems) (forms_words f ++ station_words first) _ _ (others_have name leap p systems) last in
      let galileo = pair_has name (codes "--galileo") (codes_word Galileo p.signals.galileo) refl in
      let gps = pair_has name (codes "--gps") (codes_word Gps p.signals.gps) refl in
      let more = flat_map (other_words leap p) systems ++ (forms_words f ++ station_words first) in
      let signals = codes "--gps" ∷ codes_word Gps p.signals.gps ∷ codes "--galileo" ∷ codes_word Galileo p.signals.galileo ∷ more in
      number_has name (codes "--week") w refl (number_words (codes "--station") st ++ signals)
      ∙ ap (option_or (of_word (codes "--week") name (option_map decimal w))) (number_has name (codes "--station") st refl signals
      ∙ ap (option_or (of_word (codes "--station") name (option_map decimal st))) (gps (codes "--galileo" ∷ codes_word Galileo p.signals.galileo ∷ more)
      ∙ ap (option_or (of_word (codes "--gps") name (Some (codes_word Gps p.signals.gps)))) (galileo more
      ∙ ap (option_or (of_word (codes "--galileo") name (Some (codes_word Galileo p.signals.galileo)))) (ap (given name) (sym (append-nil more)) ∙ rest [] ∙ or_none _))))

  -- an option other than the position
  words_plain : (name : List ℕ) → ((s : StationParts) → after_prefix (codes "--" ++ (name ++ codes "=")) (position_word s) ≡ None) → given name words ≡ found name None
  words_plain name e = words_give name ∙ ap (found name) (by first) where
    by : (o : Option StationParts) → position_value name o ≡ None
    by None = refl
    by (Some s) = e s

  given_or : (name otherwise : List ℕ) → ((s : StationParts) → after_prefix (codes "--" ++ (name ++ codes "=")) (position_word s) ≡ None) → unwrap_or (given name words) otherwise ≡ unwrap_or (found name None) otherwise
  given_or name otherwise e = ap (λ (o : Option (List ℕ)). unwrap_or o otherwise) (words_plain name e)

  -- ---- what each option is given

  week_given : IfSome w (λ n. given (codes "week") words ≡ Some (decimal n))
  week_given = grind (arith, common_steps, words_plain)

  station_given : given (codes "station") words ≡ option_map decimal st
  station_given = words_plain (codes "station") (λ s. refl) ∙ or_none (option_map decimal st)

  -- the signals of a system that may be left out
  other_text : (b : Bool) (text : List ℕ) → unwrap_or (option_or (option_or (option_or (if b then Some text else None) None) None) None) (codes "none") ≡ (if b then text else codes "none")
  other_text true text = refl
  other_text false text = refl

  pub signals_given : (s : System) → unwrap_or (given (name_of s) words) (default_of (rules.planned s)) ≡ signals_text p s
  signals_given Gps = given_or (codes "gps") (codes "all") (λ s. refl)
  signals_given Galileo = given_or (codes "galileo") (codes "all") (λ s. refl)
  signals_given Glonass = given_or (codes "glonass") (codes "none") (λ s. refl) ∙ other_text (nat_lt 0 (length p.signals.glonass)) (codes_word Glonass p.signals.glonass)
  signals_given Beidou = given_or (codes "beidou") (codes "none") (λ s. refl) ∙ other_text (nat_lt 0 (length p.signals.beidou)) (codes_word Beidou p.signals.beidou)
  signals_given Qzss = given_or (codes "qzss") (codes "none") (λ s. refl) ∙ other_text (nat_lt 0 (length p.signals.qzss)) (codes_word Qzss p.signals.qzss)
  signals_given Sbas = given_or (codes "sbas") (codes "none") (λ s. refl) ∙ other_text (nat_lt 0 (length p.signals.sbas)) (codes_word Sbas p.signals.sbas)

  pub channels_given : unwrap_or (given (codes "glonass-channels") words) [] ≡ channels_option p
  channels_given = given_or (codes "glonass-channels") [] (λ s. refl) ∙ by (nat_lt 0 (length p.signals.glonass)) (channels_text p.channels) where
    by : (b : Bool) (text : List ℕ) → unwrap_or (option_or (option_or (option_or (if b then some_text text else None) None) None) None) [] ≡ (if b then text else [])
    by true [] = refl
    by true (b ∷ bs) = refl
    by false text = refl

  pub leap_given : given (codes "leap-seconds") words ≡ leap_text leap p
  leap_given = words_plain (codes "leap-seconds") (λ s. refl) ∙ or_none (option_or (leap_text leap p) None) ∙ or_none (leap_text leap p)

  pub forms_given : unwrap_or (given (codes "msm") words) (codes "4,7") ≡ forms_text f
  forms_given = given_or (codes "msm") (codes "4,7") (λ s. refl) ∙ by f where
    by : (f : Forms) → unwrap_or (option_or (forms_option f) None) (codes "4,7") ≡ forms_text f
    by forms.FourAndSeven = refl
    by forms.All = refl

  pub position_given : unwrap_or (given (codes "position") words) (codes "0,0,0") ≡ option_map_or position_text first (codes "0,0,0")
  position_given = grind (arith, common_steps, words_give)

  pub height_given : unwrap_or (given (codes "antenna-height") words) (codes "0") ≡ height_text (option_and_then (λ s. s.height) first)
  height_given = given_or (codes "antenna-height") (codes "0") (λ s. refl) ∙ by (option_and_then (λ s. s.height) first) where
    by : (h : Option ℕ) → unwrap_or (height_option h) (codes "0") ≡ height_text h
    by None = refl
    by (Some h) = refl

-- ---- the options of a conversion

week_as : (options : List Row) (w : Option ℕ) (t : Option (List ℕ)) → IfSome w (λ n. t ≡ Some (decimal n)) → IfSome t (λ t. first_of (codes "week") options ≡ Some t)
    → IfSome w (λ n. first_of (codes "week") options ≡ Some (decimal n))
week_as options None t is given = tt
week_as options (Some n) t is given = subst (λ (o : Option (List ℕ)). IfSome o (λ t. first_of (codes "week") options ≡ Some t)) is given

pub as_printed : (options : List Row) (w leap wanted : Option ℕ) (fs : List Framed) → HaveValues options (printed_words w leap wanted fs) → AreAsPrinted options w leap wanted fs
as_printed options w leap wanted fs have =
    let p : PlanValue = plan_in wanted fs in
    let f : Forms = forms_had wanted fs in
    let first : Option StationParts = first_station wanted fs in
    record {
      week = week_as options w (given (codes "week") (printed_words w leap wanted fs)) (week_given w leap wanted p f first) have.week;
      station = have.station ∙ station_given w leap wanted p f first;
      signals = λ s. have.signals s ∙ signals_given w leap wanted p f first s;
      channels = have.channels ∙ channels_given w leap wanted p f first;
      leap_seconds = have.leap_seconds ∙ leap_given w leap wanted p f first;
      forms = have.forms ∙ forms_given w leap wanted p f first;
      position = have.position ∙ position_given w leap wanted p f first;
      height = have.height ∙ height_given w leap wanted p f first;
    }
