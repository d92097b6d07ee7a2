use Rattle.rtcm_inspect.proofs.Names.{common_steps, ◌≡◌, ◌∙◌, ◌+◌, ◌*◌, ◌≤◌, ◌++◌, ◌∷◌, [], ℕ, List, length, ap, sym, subst, arith, flat_map, append-nil, flat_map-append, System, table, HeardCell, count_lines, take, sum_by, take_all, sum_by-append, systems, systems_taken}
use Rattle.rtcm_inspect.proofs.signals.system_lines.Goals as goal

-- the bytes of the lines of systems
abbrev room : List System → ℕ
room ss = 26 * sum_by (λ s. length (table s)) ss

grown : (ss : List System) (s : System) → room (ss ++ s ∷ []) ≡ room ss + 26 * length (table s)
grown ss s = let e = sum_by-append (λ s. length (table s)) ss (s ∷ []) in omega (arith, e)

pub loop-i-preserved : goal.loop-i-preserved
loop-i-preserved c =
    let n : ℕ = c.loop-i.i in
    let e = systems_taken n c.at.result c.at.ensures in
    record {
      text = grind (arith, common_steps, systems_taken, append-nil, flat_map-append, grown);
      short = subst (λ (ss : List System). length c.add_lines.new.text.items ≤ room ss) (sym e) (let g = grown (take n systems) c.at.result in let s = c.add_lines.ensures.short in let b = c.loop-i.invariant.short in omega (arith, g, s, b));
    }

all : (cells : List HeardCell) (n : ℕ) → length systems ≤ n → flat_map (count_lines cells) (take n systems) ≡ flat_map (count_lines cells) systems
all cells n h = ap (flat_map (count_lines cells)) (take_all n systems h)

pub returns : goal.returns
returns c = λ cells h. c.loop-i.invariant.text cells h ∙ all cells c.loop-i.i (let end = c.loop-i-test.false in omega (arith, end))
