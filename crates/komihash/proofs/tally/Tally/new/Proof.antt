-- The body makes a value of no bytes. The proof gives it what a tally of the numbers 0 and 0 owns.
use Rattle.std.proofs.Common.{[], ◌∷◌, refl}
use Rattle.std.proofs.raw_atomic.Walks.{proved}
use Rattle.komihash.proofs.TallyProofs.{both, tally_made}
use base.Fml.{ftrue}
use denote.Laws.{Is}
use denote.Struct.Struct.{Struct, Struct-Makes}
use denote.Struct.Owning as Owning
use mir.Val.{vstruct, vcons, vnil}
use types.Kit.{‵, ◌⊛◌, use1, ◌$◌, ◌∵◌, !, qed, by, keep, join, fjoin, suffices, frame}
use types.Run.{no_more, and_then, returns, enter}
use types.Part.{agg}
use types.ByLocal.{alloc_all, pass_all, free_all, look_at, get, sets}
use denote.Steps.{nothing, owned}
use denote.Triple.Walked.{ends_at}
use Rattle.komihash.specs.declared.tally.Tally.{Tally}
use Rattle.komihash.specs.contracts.tally.Tally as T
use Rattle.komihash.specs.contracts.tally.Tally.new as it
use Rattle.komihash.proofs.tally.Tally.new.Statement as stated
use Rattle.komihash.proofs.tally.Tally.new.Code as code

pub new_spec : {M : Type 1} → stated.statement M
new_spec 𝓤 𝓛 𝓜 𝓡 wired =
    let c = it.clauses 𝓛 𝓜.mem 𝓡.returns in
    -- the value that the machine has, and the one that contracts see
    let v = vstruct (vcons (vstruct vnil) vnil) in
    let tally : Tally = record { marker = record {}; products = 0; kept_bytes = 0 } in
    -- its fields without what `also_owns` adds
    let shape = Owning.shape T.the_type in
    let Fields = Struct shape in
    let fields = Owning.to T.the_type tally in
    proved 𝓛 it.ended tt c 𝓜 𝓡 tt it.Key.name code.function (code.unfolded 𝓤 𝓛.H 𝓜 𝓡 wired)
    (λ κs. tt) (λ κs. tt) (λ κs qs bounds a g are.
    -- On entry there is nothing: no lifetime, no parameter, no condition.
    qed 𝓛 ((‵ ftrue ⊛ ‵ ftrue) ∷ ‵ ftrue ∷ []) ∵ keep ! [] $
    -- Enter the body, and allocate its locals.
    enter ! _ _ _ [] _ $ alloc_all ! (λ l. pass_all ! refl tt $
    -- Make the marker, and the struct of it.
    sets ! (agg ! (no_more !)) refl (tt, tt) $
    sets ! (agg ! (and_then ! (get ! refl) (no_more !))) refl (tt, (tt, tt)) $
    -- Return it, and free the locals.
    returns ! (look_at ! 0 refl) $ free_all ! refl $
    -- What the fields own is nothing. `tally_made` puts what a tally owns beside it.
    nothing ! $
    owned ! Fields (Is Fields) (Struct-Makes 𝓛 shape ((λ x vs uss. (tt, tt)), tt)) fields (v ∷ [])
    ((vstruct vnil ∷ [], tt), (refl, ((tt, (refl, tt)), tt))) $ fjoin ! $
    use1 𝓛 (‵ ((T.the_row).own_val tally (v ∷ [])))
    (tally_made 𝓛 (Fields.own_val fields (v ∷ [])) 0 0) $
    -- That is owned at the end, with no lifetime and no parameter, and both clauses hold.
    suffices ! _ (ends_at 𝓛 it.ended tt c ((κs, qs, bounds, a, tt), g) v tally tt tt) $
    nothing ! $ join ! $ nothing ! $ join ! $ frame ! $
    by ! (both 𝓤 refl refl)))
