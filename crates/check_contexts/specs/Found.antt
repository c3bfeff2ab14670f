-- What the code that works by name promises, from the position that its search found.
use Rattle.std.specs.Prelude.{ℕ, ◌+◌, ◌*◌, ◌<◌, ◌≡◌, refl, List, [], ◌∷◌, ◌++◌, map, get_or, set}
use Rattle.std.specs.Prelude.{Some, None}
use Rattle.std.proofs.Common.{sym, ◌∙◌}
use Rattle.std.proofs.Math.Path.{ap, subst}
use Rattle.std.proofs.Math.Option.{some, some-injective}
use native.Mathlib.Omega.{arith}
use Rattle.std.proofs.Math.ListN.{get_elem?}
use Rattle.notation.specs.Limits.{type_term_limit}
use Rattle.calculus.specs.Configuration.{end}
use Rattle.read_tables.specs.Program.{plain_in}
use Rattle.run_words.specs.Lists.{All, remove_at}
use Rattle.run_words.specs.ListLaws.{all_at, all_set, all_append, all_remove, map_join}
use Rattle.run_words.specs.Operations.{first}
use Rattle.run_words.specs.Raw.{BoundedEnd, end_by, end_words}
use Rattle.run_words.specs.SearchLaws.{first_of, first_at, first_below, first_here, none_from}
use Rattle.run_words.specs.Values.{end_in, held_in, held_length}
use Rattle.run_words.specs.declared.records.End.{End as EndWords}
use Rattle.run_words.specs.declared.records.Held.{Held}
use Rattle.run_words.proofs.Ends.{end_here}
use Rattle.check_contexts.specs.Held.{end_is, channels_of, held_by, EndIn, retyped_raw, is_named, Sees, Drops, Retypes, RetypesAt, Brings}
use Rattle.check_contexts.specs.Named.{there_lookup, there_without, there_changed, absent_lookup, absent_without, absent_changed}

module _ (s : List ℕ) (h : Held) (at k : ℕ) (f : first (is_named s at) (held_in h) ≡ Some k) where
  pub sees_there : (e : EndWords) → get_elem? (held_in h) k ≡ some (end_in e) → e.side < 2 → Sees s h at (Some e)
  unfolding channels_of
  sees_there e g b = record {
    is = λ w. there_lookup s w at (first_here (is_named s at) (held_in h) k f g);
    fits = λ w t. (all_at (EndIn s w) (held_in h) k t.each g, b);
  }

  pub drops_there : (r : Held) → held_in r ≡ remove_at k (held_in h) → r.count + 1 ≡ h.count → Drops s h at r
  unfolding channels_of
  drops_there r e n = record {
    is = λ w. ap (map (end_is s w)) e ∙ there_without s w at (first_of (is_named s at) (held_in h) k f).1;
    few = omega arith;
    fits = λ w t. let m = t.many in record { many = omega arith; each = subst (All (EndIn s w)) (sym e) (all_remove (EndIn s w) k (held_in h) t.each) };
  }

  pub retypes_there : {node : ℕ} {r : Held} → RetypesAt h k node r → Retypes s h at node r
  unfolding channels_of
  retypes_there {node} {r} q =
      let (e, p) = first_of (is_named s at) (held_in h) k f in
      let g : get_elem? (held_in h) k ≡ some e = first_at (is_named s at) p in
      let n = q.count in
      record {
        is = λ w. ap (map (end_is s w)) (q.is g) ∙ there_changed s w at (λ d. end d.side d.channel (plain_in s w node)) _ p refl;
        fits = λ w u t.
            let m = t.many in
            let o = (all_at (EndIn s w) (held_in h) k t.each g).bounds in
            record {
              many = omega arith;
              each = subst (All (EndIn s w)) (sym (q.is g)) (all_set (EndIn s w) (held_in h) k _ t.each (record { bounds = record { name = o.name; node = q.type; channel = o.channel }; type = u }));
            };
      }

module _ (s : List ℕ) (h : Held) (at : ℕ) (f : first (is_named s at) (held_in h) ≡ None) where
  pub sees_nothing : Sees s h at None
  unfolding channels_of
  sees_nothing = record { is = λ w. absent_lookup s w at (held_in h) (none_from (is_named s at) (held_in h) 0 f); fits = λ w t. omega arith }

  pub drops_nothing : Drops s h at h
  unfolding channels_of
  drops_nothing = record { is = λ w. absent_without s w at (held_in h) (none_from (is_named s at) (held_in h) 0 f); few = omega arith; fits = λ w t. t }

  pub retypes_nothing : (node : ℕ) → Retypes s h at node h
  unfolding channels_of
  retypes_nothing node = record { is = λ w. absent_changed s w at _ (held_in h) (none_from (is_named s at) (held_in h) 0 f); fits = λ w u t. t }

pub brings : (h r : Held) (e : EndWords) → held_in r ≡ held_in h ++ (end_in e ∷ []) → r.count ≡ h.count + 1 → h.count < 16 → BoundedEnd (end_in e) → Brings h e.name e.side e.node e.channel r
unfolding channels_of
brings h r e q n b o = record {
  is = λ s w. ap (map (end_is s w)) q ∙ map_join (end_is s w) (held_in h) (end_in e ∷ []);
  fits = λ s w u t. record { many = omega arith; each = subst (All (EndIn s w)) (sym q) (all_append (EndIn s w) (held_in h) (end_in e ∷ []) t.each (record { bounds = o; type = u }, tt)) };
}

pub position_below : (s : List ℕ) (h : Held) (at k : ℕ) → first (is_named s at) (held_in h) ≡ Some k → k < h.count
position_below s h at k f = omega (arith, first_below (is_named s at) (held_in h) k f, held_length h)

-- what is written over the end that was read is that end with another type
pub retypes_at : {h r : Held} {k node : ℕ} (e : EndWords) → get_elem? (held_in h) k ≡ some (end_in e)
    → held_in r ≡ set (held_in h) k (retyped_raw node (end_in e)) → r.count ≡ h.count → node < type_term_limit → RetypesAt h k node r
retypes_at {h} {k = k} {node = node} e g q n b = record {
  is = λ o. q ∙ ap (λ x. set (held_in h) k (retyped_raw node x)) (some-injective _ _ (sym g ∙ o));
  count = n;
  type = b;
}

-- the end at a position, by its words
pub end_of_words : (n : ℕ) (words : List ℕ) (k : ℕ) → k < n → get_elem? (held_in (held_by n words)) k ≡ some (end_by (get_or words (end_words * k) 0) (get_or words (end_words * k + 1) 0))
unfolding held_in
end_of_words n words k l = end_here words n k _ _ l refl refl
