-- Declarations in the tables: what is written stands there, stays, and is read back.
use Rattle.std.specs.Prelude.{ℕ, ◌+◌, ◌≡◌}
use Rattle.std.proofs.Common.{◌∙◌, subst}
use mathlib.Core.List.{List, [], ◌∷◌}
use native.Mathlib.Omega.{arith}
use Rattle.std.proofs.Math.ListN.{length}
use Rattle.notation.specs.Fine.{FineDeclaration, FineEntries, FineScript}
use Rattle.notation.specs.Tree.{Located, Ty, Proc, Entry, Declaration, declare_type, declare_proc, declare_exec}
use Rattle.notation.specs.Tables.{put_entry, put_type, put_process, more_entries, more_types, more_processes, after_type, write_type, pointer_to, after_process, write_process, after_entries, write_entries, after_declaration, write_declaration, after_script, write_script, process_entry, Within}
use Rattle.notation.specs.declared.reading.Tally.{Tally}
use Rattle.notation.specs.Tables.{Area}
use Rattle.read_tables.specs.Packing.{entry_put, type_put, process_put, exec_put}
use Rattle.read_tables.specs.Growth.{Grown, grown_none, grown_then, grown_entry, grown_type, grown_process, grown_exec, entry_kept, type_entry_kept, process_entry_kept, exec_kept}
use Rattle.read_tables.specs.Stands.{EntriesAt, DeclarationAt, ScriptAt}
use Rattle.read_tables.specs.Types.{type_grown, type_counts, whole_kept, whole_written}
use Rattle.read_tables.specs.Processes.{process_grown, process_counts, process_kept, process_written}

pub entries_count : (es : List Entry) (k : Tally) → ((after_entries es k).entries ≡ k.entries + length es) × ((after_entries es k).types ≡ k.types) × ((after_entries es k).processes ≡ k.processes) × ((after_entries es k).execs ≡ k.execs)
unfolding after_entries
entries_count [] k = omega arith
entries_count (e ∷ es) k = omega (arith, type_counts e.type k, entries_count es (more_entries (after_type e.type k)))

-- ── declarations are appended
-- an entry's number is known before its parts are written, which leave its table alone
pub entry_after : (e : Entry) (k : Tally) (w : List ℕ) → Grown (after_type e.type k) (more_entries (after_type e.type k)) w (put_entry w k.entries e.channel.at (after_type e.type k).last)
entry_after e k w =
    let d = after_type e.type k in
    subst (λ i. Grown d (more_entries d) w (put_entry w i e.channel.at d.last)) (type_counts e.type k).2.3 (grown_entry d w e.channel.at d.last)

pub type_after : (at : ℕ) (A : Ty Located) (k : Tally) (w : List ℕ) → Grown (after_type A k) (more_types (after_type A k)) w (put_type w k.types at (after_type A k).last)
type_after at A k w =
    let d = after_type A k in
    subst (λ i. Grown d (more_types d) w (put_type w i at d.last)) (type_counts A k).2.0 (grown_type d w at d.last)

abbrev pub after_signature : List Entry → List Entry → Tally → Tally
after_signature xs ys k = after_entries ys (after_entries xs k)

pub process_after : (at : ℕ) (xs ys : List Entry) (P : Proc) (k : Tally) (w : List ℕ)
    → (let e = after_signature xs ys k in
    Grown (after_process P e) (more_processes (after_process P e)) w (put_process w k.processes (process_entry at k.entries (length xs) (length ys) (pointer_to P e.terms))))
process_after at xs ys P k w =
    let d = after_entries xs k in
    let e = after_entries ys d in
    let f = after_process P e in
    let p = process_entry at k.entries (length xs) (length ys) (pointer_to P e.terms) in
    let z : f.processes ≡ k.processes = omega (arith, process_counts P e, entries_count ys d, entries_count xs k) in
    subst (λ i. Grown f (more_processes f) w (put_process w i p)) z (grown_process f w p)

pub entries_grown : (es : List Entry) (k : Tally) (w : List ℕ) → Grown k (after_entries es k) w (write_entries es k w)
unfolding after_entries write_entries
entries_grown [] k w = grown_none k w
entries_grown (e ∷ es) k w = grown_then (type_grown e.type k w) (grown_then (entry_after e k _) (entries_grown es (more_entries (after_type e.type k)) _))

pub declaration_grown : (a : Declaration) (k : Tally) (w : List ℕ) → Grown k (after_declaration a k) w (write_declaration a k w)
unfolding after_declaration write_declaration
declaration_grown (declare_type n A) k w = grown_then (type_grown A k w) (type_after n.at A k _)
declaration_grown (declare_proc n xs ys P) k w =
    let d = after_entries xs k in
    grown_then (entries_grown xs k w) (grown_then (entries_grown ys d _) (grown_then (process_grown P (after_entries ys d) _) (process_after n.at xs ys P k _)))
declaration_grown (declare_exec n) k w = grown_exec k w n.at

pub script_grown : (ds : List Declaration) (k : Tally) (w : List ℕ) → Grown k (after_script ds k) w (write_script ds k w)
unfolding after_script write_script
script_grown [] k w = grown_none k w
script_grown (a ∷ r) k w = grown_then (declaration_grown a k w) (script_grown r (after_declaration a k) (write_declaration a k w))

-- ── what stands stays
module _ {k l : Tally} {w v : List ℕ} (g : Grown k l w v) (h : Within l) where
  pub entries_kept : (es : List Entry) (i : ℕ) → EntriesAt w k i es → EntriesAt v l i es
  unfolding EntriesAt
  entries_kept [] i e = e
  entries_kept (n ∷ es) i (x, b, e, t, r) =
      let u = g.more in (x, omega arith, entry_kept g h i b ∙ e, whole_kept g h n.type x t, entries_kept es (i + 1) r)

  pub declaration_kept : (a : Declaration) (j : Tally) → DeclarationAt w k j a → DeclarationAt v l j a
  unfolding DeclarationAt
  declaration_kept (declare_type n A) j (x, b, e, t) = let u = g.more in (x, omega arith, type_entry_kept g h j.types b ∙ e, whole_kept g h A x t)
  declaration_kept (declare_proc n xs ys P) j (p, b, e, m, o, c, t) =
      let u = g.more in (
        p,
        omega arith,
        process_entry_kept g h j.processes b ∙ e,
        entries_kept xs j.entries m,
        entries_kept ys (j.entries + length xs) o,
        omega arith,
        process_kept g h P p t,
      )
  declaration_kept (declare_exec n) j (b, e) = let u = g.more in (omega arith, exec_kept g h j.execs b ∙ e)

  pub script_kept : (ds : List Declaration) (j : Tally) → ScriptAt w k j ds → ScriptAt v l j ds
  unfolding ScriptAt
  script_kept [] j e = e
  script_kept (a ∷ r) j (e, m) = (declaration_kept a j e, script_kept r (after_declaration a j) m)

-- ── what is written stands
pub entries_written : (es : List Entry) (k : Tally) (w : List ℕ) → FineEntries es → Area w → Within (after_entries es k) → EntriesAt (write_entries es k w) (after_entries es k) k.entries es
unfolding after_entries write_entries FineEntries EntriesAt
entries_written [] k w f area h = omega arith
entries_written (e ∷ es) k w (f, f', f'') area h =
    let d = after_type e.type k in
    let m = more_entries d in
    let w₁ = write_type e.type k w in
    let w₂ = put_entry w₁ k.entries e.channel.at d.last in
    let ga = type_grown e.type k w in
    let ge : Grown d m w₁ w₂ = entry_after e k w₁ in
    let gr = entries_grown es m w₂ in
    let ue = ge.more in
    let ur = gr.more in
    let st = type_counts e.type k in
    let z : m.entries ≡ k.entries + 1 = omega arith in (
      d.last,
      omega arith,
      entry_kept gr h k.entries (omega arith) ∙ entry_put w₁ k.entries e.channel.at d.last (omega (arith, ga.long)) (omega arith) f,
      whole_written e.type k (after_entries es m) w (write_entries es m w₂) f' area h (grown_then ge gr),
      subst (λ i. EntriesAt (write_entries es m w₂) (after_entries es m) i es) z (entries_written es m w₂ f'' (omega (arith, ga.long, ge.long)) h),
    )

pub declaration_written : (a : Declaration) (k : Tally) (w : List ℕ) → FineDeclaration a → Area w → Within (after_declaration a k) → DeclarationAt (write_declaration a k w) (after_declaration a k) k a
unfolding after_declaration write_declaration FineDeclaration DeclarationAt
declaration_written (declare_type n A) k w (f, f') area h =
    let d = after_type A k in
    let w₁ = write_type A k w in
    let ga = type_grown A k w in
    let st = type_counts A k in (
      d.last,
      omega arith,
      type_put w₁ k.types n.at d.last (omega (arith, ga.long)) (omega arith),
      whole_written A k (more_types d) w (put_type w₁ k.types n.at d.last) f' area h (type_after n.at A k w₁),
    )
declaration_written (declare_proc n xs ys P) k w (f, f', f'', m) area h =
    let d = after_entries xs k in
    let e = after_entries ys d in
    let r = after_process P e in
    let w₁ = write_entries xs k w in
    let w₂ = write_entries ys d w₁ in
    let w₃ = write_process P e w₂ in
    let gx = entries_grown xs k w in
    let gy = entries_grown ys d w₁ in
    let gp = process_grown P e w₂ in
    let cx = entries_count xs k in
    let cy = entries_count ys d in
    let cp = process_counts P e in
    let x = pointer_to P e.terms in
    let p = process_entry n.at k.entries (length xs) (length ys) x in
    let gn = process_after n.at xs ys P k w₃ in
    let uy = gy.more in
    let up = gp.more in (
      x,
      omega arith,
      process_put w₃ k.processes n.at k.entries (length xs) (length ys) x (omega (arith, gx.long, gy.long, gp.long)) (omega arith) (omega arith),
      entries_kept (grown_then gy (grown_then gp gn)) h xs k.entries (entries_written xs k w f' area (omega arith)),
      subst (λ i. EntriesAt (put_process w₃ k.processes p) (more_processes r) i ys) cx.0 (entries_kept (grown_then gp gn) h ys d.entries (entries_written ys d w₁ f'' (omega (arith, gx.long)) (omega arith))),
      omega arith,
      process_kept gn h P x (process_written P e w₂ m (omega (arith, gx.long, gy.long)) (omega arith)),
    )
declaration_written (declare_exec n) k w f area h = (omega arith, exec_put w k.execs n.at area (omega arith))

pub script_written : (ds : List Declaration) (k : Tally) (w : List ℕ) → FineScript ds → Area w → Within (after_script ds k) → ScriptAt (write_script ds k w) (after_script ds k) k ds
unfolding after_script write_script FineScript ScriptAt
script_written [] k w f area h = omega arith
script_written (a ∷ r) k w (f, f') area h =
    let d = after_declaration a k in
    let w₁ = write_declaration a k w in
    let ga = declaration_grown a k w in
    let gr = script_grown r d w₁ in
    let u = gr.more in
    (declaration_kept gr h a k (declaration_written a k w f area (omega arith)), script_written r d w₁ f' (omega (arith, ga.long)) h)
