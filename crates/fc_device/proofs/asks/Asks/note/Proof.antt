-- An empty body: the borrow is opened, and closed at a value with one more in its list.
use Rattle.std.proofs.Common.{ℕ, List, [], ◌∷◌, ◌++◌, ◌<◌, ◌^◌, Option, length, refl, MutBor}
use seplogic.Ra.Ura.{Ura}
use mir.Syntax.{named}
use mir.Val.{Val, vunit, vptr}
use base.Fml.{GName, Lft, Share, Fml, ftrue, flft, fobs, fbor}
use base.Logic.{SProp, ent, sep, emp, via, fst∗, id⊢}
use prog.Memory.{Memory}
use prog.Routine.{Routine}
use prog.Wp.{Calls, Loops, WpFn, Tables}
use sound.WpLaws.{WpFn-mono}
use types.Logic.{Logic, sem}
use types.SemTy.{Body}
use types.Kit.{‵, ◌⊛◌, ◌$◌, ◌∵◌, !, qed, by, move, keep, drop, use1, split, join, fsplit, fsplit3, fjoin, fjoin3, feq_i, suffices, frame, done}
use types.Run.{unit_lit, of_opd, returns, enter}
use types.ByLocal.{alloc_all, pass_all, free_all, look_at, sets}
use contract.Monad.{Fun}
use contract.Running.{tables, tables_of}
use denote.Builtin.{u8, u64}
use denote.Exit.{yes}
use denote.Memory.{mem}
use denote.RattleType.{RattleType, owns}
use denote.Ref.{Bor, MutRef, ShrRef, mut_vals, mut_Tells, shr_vals, shr_Tells}
use denote.Signature.{plain}
use denote.Slice.{ShrSlice, slice_val, shr_slice_vals, shr_slice_Tells}
use denote.Steps.{opens, closes}
use denote.Triple.Entry.{on_entry}
use denote.Triple.Spec.{Meets, triple_of}
use denote.Triple.Table.{entered}
use denote.Triple.Walked.{says, Stays, stay_ref, stay_none_ref, stay_none_slice, walk_of, AllGo, Goes-ref, Goes-none_ref, Goes-none_slice, Walks, ends_at, walked, walk_Meets}
use Rattle.std.specs.contracts.option.Option as O
use Rattle.fc_device.specs.declared.asks.Asks.{Asks}
use Rattle.fc_device.specs.contracts.asks.Asks as T
use Rattle.fc_device.specs.contracts.asks.Asks.note as F
use Rattle.fc_device.specs.contracts.asks.Asks.note.Key.{name as #note}
use Rattle.fc_device.proofs.asks.Asks.note.Statement.{statement}
use Rattle.fc_device.proofs.asks.Asks.note.Code as code

abbrev Blank : RattleType
Blank = O.the_row u64

abbrev stayed : Stays (F.ended).signature.params (F.ended).kept
stayed = (stay_ref (0 ∷ []) tt (plain (λ _. T.the_row)), (stay_none_slice (1 ∷ []) tt (plain (λ _. u8)) yes, (stay_none_ref (2 ∷ []) tt (plain (λ _. Blank)) yes, tt)))

abbrev Arg : Type 0
Arg = MutBor Asks × (Bor (List ℕ) × (Bor (Option ℕ) × Unit {0}))

module _ {M : Type 1} {𝓤 : Ura M} (𝓛 : Logic 𝓤) (at_mem : Memory → SProp 𝓤) (run : Routine → Fun 𝓤) where
  open 𝓛 use {H, A}

  module _ (κ κ' κ'' : Lft) (q q' q'' : Share) (b o : ℕ) (γ : GName) (was : Asks) (name : Bor (List ℕ)) (blank : Bor (Option ℕ)) where
    abbrev given : Arg
    given = (record { ref_ptr = (b, o); ghost_name = γ; now = was }, (name, (blank, tt)))

    abbrev more : Asks
    more = record { nothing = was.nothing; list = was.list ++ (name.now, blank.now) ∷ [] }

    abbrev at : List Val × (List Val × (List Val × Unit {0}))
    at = (vptr b o ∷ [], (slice_val name.ref_ptr (length name.now) ∷ [], (vptr blank.ref_ptr.0 blank.ref_ptr.1 ∷ [], tt)))

    abbrev lent : Fml
    lent = owns (ShrSlice (named 1) κ' u8 ∷ ShrRef (named 2) κ'' Blank ∷ []) given.1 at.1

    abbrev Post : Val → SProp 𝓤
    Post = (walk_of 𝓛 F.ended stayed (F.clauses 𝓛 at_mem run)).post (((κ, (κ', (κ'', tt))), (q, (q', (q'', tt))), tt, given, at), tt)

    exits : ent 𝓤 (sep 𝓤 (A.obs γ ((T.the_row).coded.code more)) (sep 𝓤 (A.bor κ (Body (mem T.the_row) b o γ)) (sep 𝓤 (A.lft κ q) (sep 𝓤 (sem 𝓛 lent) (sep 𝓤 (A.lft κ' q') (sep 𝓤 (A.lft κ'' q'') (emp 𝓤))))))) (Post vunit)
    exits =
        qed 𝓛 (‵ (fobs γ ((T.the_row).coded.code more)) ∷ ‵ (fbor κ (Body (mem T.the_row) b o γ)) ∷ ‵ (flft κ q) ∷ ‵ lent ∷ (‵ (flft κ' q') ⊛ (‵ (flft κ'' q'') ⊛ ‵ ftrue)) ∷ []) ∵
        suffices ! _ (ends_at 𝓛 F.ended stayed (F.clauses 𝓛 at_mem run) (((κ, (κ', (κ'', tt))), (q, (q', (q'', tt))), tt, given, at), tt) vunit tt (more, (tt, (tt, tt))) (tt, (tt, (tt, tt)))) $
        says ! refl $ move ! (2 ∷ 4 ∷ []) $ join ! $
        frame ! $ feq_i ! (List Val) (vptr b o ∷ []) (vptr b o ∷ []) refl $ fjoin3 ! $ fjoin ! $
        feq_i ! (List Val) (vunit ∷ []) (vunit ∷ []) refl $ move ! (1 ∷ 0 ∷ []) $ done !

    walk : (C : Calls 𝓤 H) (Λ : Loops 𝓤 H) → length name.now < 2 ^ 64
        → ent 𝓤 (on_entry 𝓛 F.signature (κ, (κ', (κ'', tt))) (q, (q', (q'', tt))) given at) (WpFn 𝓤 H C Λ code.function (vptr b o ∷ slice_val name.ref_ptr (length name.now) ∷ vptr blank.ref_ptr.0 blank.ref_ptr.1 ∷ []) Post)
    walk C Λ fits =
        qed 𝓛 ((‵ (flft κ q) ⊛ (‵ (flft κ' q') ⊛ (‵ (flft κ'' q'') ⊛ ‵ ftrue))) ∷ ‵ (owns (MutRef (named 0) κ T.the_row ∷ ShrSlice (named 1) κ' u8 ∷ ShrRef (named 2) κ'' Blank ∷ []) given at) ∷ []) ∵
        split ! $ move ! (2 ∷ []) $ fsplit ! $ fsplit3 ! $ drop ! $ move ! (0 ∷ 1 ∷ 3 ∷ []) $
        enter ! C Λ code.function (vptr b o ∷ slice_val name.ref_ptr (length name.now) ∷ vptr blank.ref_ptr.0 blank.ref_ptr.1 ∷ []) _ $
        alloc_all ! (λ l. pass_all ! refl ((tt, tt), ((tt, (tt, (record { fits = fits }, tt))), ((tt, tt), tt))) $
        move ! (0 ∷ 1 ∷ 2 ∷ []) $ opens ! tt T.the_row {h = was} b o (λ vs.
        sets ! (of_opd ! (unit_lit !)) refl (tt, tt) $
        move ! (1 ∷ []) $ use1 𝓛 (‵ ((T.the_row).own_val more vs)) (id⊢ 𝓤 _) $ move ! (1 ∷ 0 ∷ []) $ closes ! tt T.the_row more vs b o $
        returns ! (look_at ! 0 refl) $ free_all ! refl $
        keep ! (0 ∷ 1 ∷ 2 ∷ 3 ∷ 4 ∷ []) $ by ! exits))

  walks : (C : Calls 𝓤 H) (Λ : Loops 𝓤 H) → Walks 𝓛 F.ended stayed (WpFn 𝓤 H C Λ code.function) (F.clauses 𝓛 at_mem run)
  walks C Λ =
      walked 𝓛 F.ended stayed (F.clauses 𝓛 at_mem run) (WpFn 𝓤 H C Λ code.function) (λ κs. (mut_vals, (shr_slice_vals, (shr_vals, tt))))
      (λ κs. (mut_Tells (named 0) κs.0 T.the_row, (shr_slice_Tells (named 1) κs.1.0 u8, (shr_Tells (named 2) κs.1.1.0 Blank, tt))))
      (λ κs qs bounds a _ are. via 𝓤 _ (fst∗ 𝓤 _ (emp 𝓤)) (walk κs.0 κs.1.0 κs.1.1.0 qs.0 qs.1.0 qs.1.1.0 a.0.ref_ptr.0 a.0.ref_ptr.1 a.0.ghost_name a.0.now a.1.0 a.1.1.0 C Λ are.1.0.0.1.0))

  goes : AllGo 𝓛 3 (F.signature).params (F.ended).kept stayed
  goes = (Goes-ref 𝓛 3 0 tt (plain (λ _. T.the_row)), (Goes-none_slice 𝓛 3 (1 ∷ []) tt (plain (λ _. u8)) yes, (Goes-none_ref 𝓛 3 (2 ∷ []) tt (plain (λ _. Blank)) yes, tt)))

  meets : (𝓣 : Tables 𝓤 H) → Meets 𝓛 F.signature (WpFn 𝓤 H 𝓣.C 𝓣.Λ code.function) (F.spec 𝓛 at_mem run)
  meets 𝓣 = walk_Meets 𝓛 F.ended stayed goes (F.clauses 𝓛 at_mem run) (WpFn 𝓤 H 𝓣.C 𝓣.Λ code.function) (WpFn-mono 𝓤 H 𝓛.laws 𝓣 code.function) (walks 𝓣.C 𝓣.Λ)

pub note_spec : {M : Type 1} → statement M
unfolding tables_of
note_spec 𝓤 𝓛 𝓜 𝓡 wired =
    let 𝓣 = tables_of 𝓤 𝓛.H 𝓜 (tables 𝓤 𝓛.H 𝓜 𝓡 𝓡.env) in
    entered 𝓤 𝓛.H (triple_of 𝓛 F.signature (F.spec 𝓛 𝓜.mem 𝓡.returns)) 𝓣.C 𝓣.Λ #note code.function (code.unfolded 𝓤 𝓛.H 𝓜 𝓡 wired) (meets 𝓛 𝓜.mem 𝓡.returns 𝓣)
