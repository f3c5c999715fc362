-- The products of the examples: what holds of them, and how their functions run.
use Rattle.std.proofs.Common.{◌≡◌, ◌≢◌, ℕ, zero, suc, ◌+◌, ◌*◌, ◌<◌, inl, All, List, [], ◌∷◌, length, refl, sym, ◌∙◌, ap, lit<, arith}
use Rattle.std.specs.List.{AllByRecursion}
use Rattle.std.proofs.lemmas.List.Elements.{All-cons, All-nil}
use Rattle.runs.specs.Equivalent.{AreEquivalent}
use Rattle.runs.specs.Run.{Run, run_of, stepped}
use Rattle.runs.specs.declared.ends.RunEnd.TheVariants.{Returned, Running}
use Rattle.product_automaton.specs.Ranks.{HasLowRanks, LowersRanks, RanksFall, longest_path}
use Rattle.product_simulation.specs.Examples.{AnyEnd, IsAtEntry, LeapingRelated, StandingRelated, WaitingRelated, circle_edge, product_edge, endless_step, entry_edge, leaping_product, product_node, quick_step, slow_step, slower_step, standing_product, waiting_product}
use Rattle.product_simulation.specs.Leads.{EdgesLead, LeadsOn}

low_node : (n : ℕ) (left right rank : ℕ) → rank < n → HasLowRanks n (product_node left right rank)
low_node n left right rank below = record { left = below; right = omega arith }

-- each element of a short list, one by one
each : {X : Type 0} (P : X → Type 0) (xs : List X) → AllByRecursion P xs → All P xs
each P [] h = All-nil P
each P (x ∷ xs) h = All-cons P x xs h.0 (each P xs h.1)

pub waiting_falls : RanksFall waiting_product
waiting_falls = record {
  two = lit< tt;
  low = each (HasLowRanks 4) waiting_product.nodes
      (low_node 4 0 0 2 (lit< tt), (low_node 4 0 0 0 (lit< tt), (low_node 4 0 1 1 (lit< tt), (low_node 4 0 2 0 (lit< tt), tt))));
  lowers = each (LowersRanks waiting_product.nodes) waiting_product.edges (
    record { target = lit< tt; left = λ e. lit< tt; right = λ e. absurd (cc) },
    (
      record { target = lit< tt; left = λ e. lit< tt; right = λ e. absurd (cc) },
      (record { target = lit< tt; left = λ e. absurd (cc); right = λ e. absurd (cc) }, tt),
    ),
  );
}

waiting-leads : (node : ℕ) → node < 4 → node ≢ 1 → (a b : ℕ) → WaitingRelated node a b → LeadsOn (λ s. s) quick_step slow_step waiting_product WaitingRelated node a b
waiting-leads zero within inside a b h = rw (h.left_place, h.right_place) (record {
  edge = product_edge 0 2 [] (0 ∷ []);
  is_edge = (0, lit< tt, refl);
  from = refl;
  is_way = inl (record { left_end = 0; right_end = 1; left = refl; right = refl; into = record { left_place = refl; right_place = refl } });
})
waiting-leads (suc zero) within inside a b h = absurd (inside refl)
waiting-leads (suc (suc zero)) within inside a b h = rw (h.left_place, h.right_place) (record {
  edge = product_edge 2 3 [] (1 ∷ []);
  is_edge = (1, lit< tt, refl);
  from = refl;
  is_way = inl (record { left_end = 0; right_end = 2; left = refl; right = refl; into = record { left_place = refl; right_place = refl } });
})
waiting-leads (suc (suc (suc zero))) within inside a b h = rw (h.left_place, h.right_place) (record {
  edge = product_edge 3 1 (0 ∷ []) (2 ∷ []);
  is_edge = (2, lit< tt, refl);
  from = refl;
  is_way = inl (record { left_end = 0; right_end = 2; left = refl; right = refl; into = tt });
})
waiting-leads (suc (suc (suc (suc k)))) within inside a b h = absurd h

pub waiting_leads : EdgesLead (λ s. s) quick_step slow_step waiting_product WaitingRelated
waiting_leads node within inside a b h = waiting-leads node within inside a b h

-- within the longest path's length the slow function has not returned when the quick one has
pub longest_is_no_bound : AreEquivalent IsAtEntry AnyEnd (longest_path waiting_product.edges) quick_step slow_step → ⊥
longest_is_no_bound h =
    let late = (h.left 0 refl).returned 1 1 refl in
    let on : Running ≡ Returned late.0 = late.1 in
    cc

pub leaping_falls : RanksFall leaping_product
leaping_falls = record {
  two = lit< tt;
  low = each (HasLowRanks 2) leaping_product.nodes (low_node 2 0 0 0 (lit< tt), (low_node 2 0 0 0 (lit< tt), tt));
  lowers = each (LowersRanks leaping_product.nodes) leaping_product.edges (record { target = lit< tt; left = λ e. absurd (cc); right = λ e. absurd (cc) }, tt);
}

leaping-leads : (node : ℕ) → node < 2 → node ≢ 1 → (a b : ℕ) → LeapingRelated node a b
    → LeadsOn (λ s. s) quick_step slower_step leaping_product LeapingRelated node a b
leaping-leads zero within inside a b h = rw (h.left_place, h.right_place) (record {
  edge = product_edge 0 1 (0 ∷ []) (0 ∷ 1 ∷ 2 ∷ 3 ∷ 4 ∷ []);
  is_edge = (0, lit< tt, refl);
  from = refl;
  is_way = inl (record { left_end = 0; right_end = 4; left = refl; right = refl; into = tt });
})
leaping-leads (suc zero) within inside a b h = absurd (inside refl)
leaping-leads (suc (suc k)) within inside a b h = absurd h

pub leaping_leads : EdgesLead (λ s. s) quick_step slower_step leaping_product LeapingRelated
leaping_leads node within inside a b h = leaping-leads node within inside a b h

-- within the number of nodes the slower function has not returned when the quick one has
pub nodes_are_no_bound : AreEquivalent IsAtEntry AnyEnd (length leaping_product.nodes) quick_step slower_step → ⊥
nodes_are_no_bound h =
    let late = (h.left 0 refl).returned 1 1 refl in
    let on : Running ≡ Returned late.0 = late.1 in
    cc

pub standing_falls : RanksFall (standing_product (entry_edge ∷ []))
standing_falls = record {
  two = lit< tt;
  low = each (HasLowRanks 3) (standing_product []).nodes
      (low_node 3 0 0 1 (lit< tt), (low_node 3 0 0 0 (lit< tt), (low_node 3 0 0 0 (lit< tt), tt)));
  lowers = each (LowersRanks (standing_product []).nodes) (entry_edge ∷ [])
      (record { target = lit< tt; left = λ e. lit< tt; right = λ e. absurd (cc) }, tt);
}

standing-leads : (node : ℕ) → node < 3 → node ≢ 1 → (a b : ℕ) → StandingRelated node a b
    → LeadsOn (λ s. s) quick_step endless_step (standing_product (entry_edge ∷ circle_edge ∷ [])) StandingRelated node a b
standing-leads zero within inside a b h = rw (h.left_place, h.right_place) (record {
  edge = entry_edge;
  is_edge = (0, lit< tt, refl);
  from = refl;
  is_way = inl (record { left_end = 0; right_end = 0; left = refl; right = refl; into = record { left_place = refl; right_place = refl } });
})
standing-leads (suc zero) within inside a b h = absurd (inside refl)
standing-leads (suc (suc zero)) within inside a b h = rw (h.left_place, h.right_place) (record {
  edge = circle_edge;
  is_edge = (1, lit< tt, refl);
  from = refl;
  is_way = inl (record { left_end = 0; right_end = 0; left = refl; right = refl; into = record { left_place = refl; right_place = refl } });
})
standing-leads (suc (suc (suc k))) within inside a b h = absurd h

pub standing_leads : EdgesLead (λ s. s) quick_step endless_step (standing_product (entry_edge ∷ circle_edge ∷ [])) StandingRelated
standing_leads node within inside a b h = standing-leads node within inside a b h

-- the endless function goes on
endless_step-goes : (n : ℕ) → run_of endless_step 0 n ≡ (0, Running)
endless_step-goes zero = refl
endless_step-goes (suc n) = ap (stepped endless_step (suc n)) (endless_step-goes n)

-- so it is equivalent to the quick one within no bound
pub endless_is_other : (k : ℕ) → AreEquivalent IsAtEntry AnyEnd k quick_step endless_step → ⊥
endless_is_other k h =
    let late = (h.left 0 refl).returned 1 1 refl in
    let on : Running ≡ Returned late.0 = sym (ap (λ (r : Run ℕ). r.1) (endless_step-goes (k * (1 + 1)))) ∙ late.1 in
    cc
