-- Unifiers, most general ones, and none at all: what the theorems about `unify` speak of.
use Rattle.std.specs.Prelude.{◌≡◌, List, ◌++◌}
use Rattle.std.proofs.Math.Option.{Option, none, some}
use Rattle.machine.specs.Substitution.{Variable, RTerm, RTerms, var, app, rnil, rcons, Binding, resolve}

-- a term for each variable
abbrev pub Substitution : Type 0
Substitution = Variable → RTerm

abbrev mutual
  pub apply : Substitution → RTerm → RTerm
  apply σ (var v) = σ v
  apply σ (app f ts) = app f (apply_all σ ts)

  pub apply_all : Substitution → RTerms → RTerms
  apply_all σ rnil = rnil
  apply_all σ (rcons t ts) = rcons (apply σ t) (apply_all σ ts)

-- after the bindings, a substitution makes two terms equal
abbrev pub Unifies : Substitution → List Binding → RTerm → RTerm → Type 0
Unifies σ b t u = apply σ (resolve b t) ≡ apply σ (resolve b u)

-- Bindings b1 are a most general unifier of two terms under b: they are b with newer ones, they make the two equal, and whatever unifies the two
-- after b is the same after b1 as after b, on every term.
pub record MostGeneral (b : List Binding) (t u : RTerm) (b1 : List Binding) : Type 0 where
  pub newer : List Binding
  pub extends : b1 ≡ newer ++ b
  pub equal : resolve b1 t ≡ resolve b1 u
  pub general : (σ : Substitution) → Unifies σ b t u → (x : RTerm) → apply σ (resolve b1 x) ≡ apply σ (resolve b x)

-- no substitution unifies the two after the bindings
abbrev pub NoUnifier : List Binding → RTerm → RTerm → Type 0
NoUnifier b t u = (σ : Substitution) → Unifies σ b t u → ⊥

-- what `unify` is to answer
abbrev pub Unified : List Binding → RTerm → RTerm → Option (List Binding) → Type 0
Unified b t u none = NoUnifier b t u
Unified b t u (some b1) = MostGeneral b t u b1
