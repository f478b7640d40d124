-- What a tally owns may be made, and changed to that of any other numbers. It takes the key, which
-- only this crate has: `proofs/Lib.antt` keeps this file private.
use Rattle.std.proofs.Common.{ℕ, sym, subst}
use seplogic.Ra.Ura.{Ura}
use base.Fml.{Fml, ftrue, fsep}
use base.Logic.{ent, id⊢, sep, emp, via, emp∗, mono∗}
use contract.Monad.{fact, fact_i}
use types.Logic.{Logic}
use types.Kit.{mean, ‵}
use Rattle.komihash.specs.Tallies.{owned_by_tally, opened}
use Rattle.komihash.specs.declared.tally.TallyKey.TheView.{view}

module _ {M : Type 1} {𝓤 : Ura M} (𝓛 : Logic 𝓤) (P : Fml) where
  -- beside P, what F says gives what G says
  abbrev Gives : Fml → Fml → Type 1
  Gives F G = ent 𝓤 (mean 𝓛 (‵ (fsep P F))) (mean 𝓛 (‵ (fsep P G)))

  pub tally_made : (m n : ℕ) → Gives ftrue (owned_by_tally m n)
  tally_made m n = subst (Gives ftrue) (sym (opened (view (record {})) m n)) (id⊢ 𝓤 _)

  pub tally_changed : (m n m' n' : ℕ) → Gives (owned_by_tally m n) (owned_by_tally m' n')
  tally_changed m n m' n' =
      subst (λ F. Gives F (owned_by_tally m' n')) (sym (opened (view (record {})) m n))
      (tally_made m' n')

-- two facts own nothing, so together they prove the separating conjunction that ends a handwritten
-- proof
pub both : {M : Type 1} (𝓤 : Ura M) {φ ψ : Type 0} → φ → ψ
    → ent 𝓤 (emp 𝓤) (sep 𝓤 (fact 𝓤 φ) (fact 𝓤 ψ))
both 𝓤 {φ} {ψ} p q =
    via 𝓤 (sep 𝓤 (emp 𝓤) (emp 𝓤)) (emp∗ 𝓤 (emp 𝓤))
    (mono∗ 𝓤 (fact_i 𝓤 φ (emp 𝓤) p) (fact_i 𝓤 ψ (emp 𝓤) q))
