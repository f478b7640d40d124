-- The body is empty. The proof opens the borrow, raises the ghost fields, and closes the borrow.
use Rattle.std.proofs.Common.{◌+◌, List, [], ◌∷◌, refl}
use Rattle.std.proofs.raw_atomic.Walks.{proved}
use Rattle.komihash.proofs.TallyProofs.{tally_changed}
use denote.Struct.Struct.{Struct}
use denote.Struct.Owning as Owning
use base.Fml.{ftrue, flft}
use mir.Syntax.{named, w64}
use mir.Val.{Val, vunit}
use types.Kit.{‵, ◌⊛◌, ◌$◌, ◌∵◌, !, qed, done, move, keep, use1, split, join, suffices, frame}
use types.Kit.{fsplit, fsplit3, feq_i, group}
use types.Run.{unit_lit, of_opd, returns, enter}
use types.ByLocal.{alloc_all, pass_all, free_all, look_at, sets}
use denote.RattleType.{owns}
use denote.Exit.{yes}
use denote.Ref.{MutRef, mut_vals, mut_Tells}
use denote.Builtin.{usize}
use denote.Plain.{uint_vals, uint_Tells}
use denote.Signature.{plain}
use denote.Steps.{opens, closes, nothing}
use denote.Triple.Walked.{Stays, stay_ref, stay_dropped, walk_of, Goes-ref, Goes-dropped, ends_at}
use denote.Triple.Walked.{says}
use Rattle.komihash.specs.declared.tally.Tally.{Tally}
use Rattle.komihash.specs.contracts.tally.Tally.{the_row as R, the_type as T}
use Rattle.komihash.specs.contracts.tally.Tally.raise as f
use Rattle.komihash.proofs.tally.Tally.raise.Statement.{statement}
use Rattle.komihash.proofs.tally.Tally.raise.Code as code

abbrev stayed : Stays f.ended.signature.params f.ended.kept
stayed = (
  stay_ref (0 ∷ []) tt (plain (λ _. R)),
  (stay_dropped (plain (λ _. usize)) yes, (stay_dropped (plain (λ _. usize)) yes, tt)),
)

pub raise_spec : {M : Type 1} → statement M
raise_spec 𝓤 𝓛 𝓜 𝓡 wired =
    let c = f.clauses 𝓛 𝓜.mem 𝓡.returns in
    let W = walk_of 𝓛 f.ended stayed c in
    let goes = Goes-dropped 𝓛 1 (plain (λ _. usize)) yes (λ κs x w. refl) in
    proved 𝓛 f.ended stayed c 𝓜 𝓡 (Goes-ref 𝓛 1 0 tt (plain (λ _. R)), (goes, (goes, tt)))
    f.Key.name code.function (code.unfolded 𝓤 𝓛.H 𝓜 𝓡 wired)
    (λ κs. (mut_vals, (uint_vals w64, (uint_vals w64, tt))))
    (λ κs. (mut_Tells (named 0) κs.0 R, (uint_Tells w64, (uint_Tells w64, tt))))
    (λ κs qs bounds a _ are.
    -- the reference, where it points, and the two numbers
    let at = a.0.ref_ptr in
    let vs = mut_vals a.0 in
    let m = a.1.0 in
    let n = a.1.1.0 in
    -- the tally before and after, and its fields without what `also_owns` adds
    let old : Tally = a.0.now in
    let new : Tally =
    record { marker = old.marker; products = old.products + m; kept_bytes = old.kept_bytes + n } in
    let fields = Owning.to T old in
    let types = MutRef (named 0) κs.0 R ∷ usize ∷ usize ∷ [] in
    let y : W.Ghost = ((κs, qs, bounds, a, (vs, (uint_vals w64 m, (uint_vals w64 n, tt)))), tt) in
    -- On entry: the token of the reference's lifetime, the parameters, and no condition.
    qed 𝓛 (((‵ (flft κs.0 qs.0) ⊛ ‵ ftrue) ⊛ ‵ (owns types a y.0.4)) ∷ ‵ ftrue ∷ []) ∵
    -- Keep the reference, in three parts, and the token.
    split ! $ split ! $ move ! (2 ∷ []) $ fsplit ! $ fsplit3 ! $ keep ! (1 ∷ 2 ∷ 4 ∷ 0 ∷ []) $
    -- Enter the body, and allocate its locals.
    enter ! _ _ _ _ _ $ alloc_all ! (λ l. pass_all ! refl
    ((tt, tt), ((tt, record { fits = are.1.0.1 }), ((tt, record { fits = are.1.1.0.1 }), tt))) $
    -- Open the borrow: us is what the machine has for the tally.
    opens ! tt R at.0 at.1 (λ us.
    -- The body does nothing.
    sets ! (of_opd ! (unit_lit !)) refl (tt, tt) $
    -- Change the ghost fields.
    move ! (1 ∷ []) $ use1 𝓛 (‵ (R.own_val new us))
    (tally_changed 𝓛 ((Struct (Owning.shape T)).own_val fields us)
    old.products old.kept_bytes new.products new.kept_bytes) $
    -- Close the borrow at the new tally.
    move ! (1 ∷ 0 ∷ []) $ closes ! tt R new us at.0 at.1 $
    -- Return, and free the locals. Left are the first part of the reference, the other two, and the
    -- token.
    returns ! (look_at ! 0 refl) $ free_all ! refl $ move ! (3 ∷ []) $
    -- The clause holds of the new tally.
    suffices ! _
    (ends_at 𝓛 f.ended stayed c y vunit tt (new, (tt, (tt, tt))) (tt, (tt, (tt, tt)))) $
    says ! (record { products = refl; kept_bytes = refl }) $
    -- Put the reference together, and beside it nothing for each number.
    group ! 3 $ nothing ! $ nothing ! $ join ! $ nothing ! $ join ! $
    move ! (1 ∷ 0 ∷ []) $ join ! $
    -- Put the token together with the end of the list of tokens, and add the result, which is ().
    nothing ! $ move ! (2 ∷ 0 ∷ []) $ join ! $ frame ! $ frame ! $
    feq_i ! (List Val) (vunit ∷ []) _ refl $ done !)))
