-- The line of the options, of its parts.
use Rattle.rtcm_inspect.proofs.Names.{end_line, words_after, ◌≡◌, ◌∙◌, [], ◌∷◌, ◌++◌, ℕ, List, Option, Some, None, ap, sym, append_assoc, append-nil, codes, refl, flat_map, flat_map-append, PlanValue, Gps, Galileo, System, StationParts, codes_word, Forms, forms_words, number_start, number_words, options_line, station_words, line, with_words, systems, first_words, other_words, arith, common_steps}

-- an option with a number before the words of a line
first_option : (name : List ℕ) (n : Option ℕ) (w : List ℕ) (ws : List (List ℕ)) → number_start name n ++ line (w ∷ ws) ≡ line (number_words name n ++ w ∷ ws)
first_option name None w ws = refl
first_option name (Some n) w ws = simp append_assoc

-- two of them
two_options : (first second : List ℕ) (n m : Option ℕ) (w : List ℕ) (ws : List (List ℕ))
    → (number_start first n ++ number_start second m) ++ line (w ∷ ws) ≡ line (number_words first n ++ (number_words second m ++ w ∷ ws))
two_options first second None m w ws = first_option second m w ws
two_options first second (Some n) None w ws = simp (append_assoc, append-nil)
two_options first second (Some n) (Some m) w ws = simp append_assoc

pub words_more : (text : List ℕ) (first more : List (List ℕ)) → with_words (with_words text first) more ≡ with_words text (first ++ more)
words_more text [] more = refl
words_more text (w ∷ ws) more = words_more (text ++ 0x20 ∷ w) ws more

-- the words of one more system
pub others_more : (leap : Option ℕ) (p : PlanValue) (t : List ℕ) (ss : List System) (s : System)
    → with_words (with_words t (flat_map (other_words leap p) ss)) (other_words leap p s) ≡ with_words t (flat_map (other_words leap p) (ss ++ s ∷ []))
others_more leap p t ss s = grind (arith, common_steps, words_more, append-nil, flat_map-append)

-- the line, of its first words, those of the other systems, and the last ones
pub line_made : (week leap own : Option ℕ) (p : PlanValue) (forms : Forms) (point : Option StationParts) {one two all : List ℕ} → one ≡ first_words week own p → two ≡ with_words one (flat_map (other_words leap p) systems)
    → all ≡ two ++ (with_words [] (forms_words forms ++ station_words point) ++ 0x0A ∷ []) → all ≡ options_line week leap own p forms point
unfolding options_line
line_made week leap own p forms point {one} {two} {all} first second third =
    let last = forms_words forms ++ station_words point in
    let others = flat_map (other_words leap p) systems in
    let start = number_start (codes "--week") week ++ number_start (codes "--station") own in
    let shown : List (List ℕ) = codes_word Gps p.signals.gps ∷ codes "--galileo" ∷ codes_word Galileo p.signals.galileo ∷ [] in
    let joined = ap (λ (l : List ℕ). l ++ 0x0A ∷ []) (words_after two [] last ∙ ap (λ (l : List ℕ). with_words l last) (append-nil two ∙ second ∙ ap (λ (l : List ℕ). with_words l others) first)
    ∙ words_more (first_words week own p) others last ∙ words_more (start ++ codes "--gps") shown (others ++ last)) in
    end_line start (codes "--gps") (shown ++ (others ++ last)) (third ∙ sym (append_assoc two (with_words [] last) (0x0A ∷ [])) ∙ joined) refl
    ∙ two_options (codes "--week") (codes "--station") week own (codes "--gps") (shown ++ (others ++ last))
