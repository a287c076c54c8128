-- Laws of reading a literal that is no bracket and is counted: one for each way out of the function. Assumes nothing.
use Prim.Native.Nat.{ℕ, suc, ◌+◌, ◌-◌, ◌*◌, ◌≤◌, ◌<◌}
use native.Mathlib.Numerals.{add-one}
use mathlib.Core.Path.{◌≡◌, refl, ap, subst, subst⁻¹}
use mathlib.Core.Bool.{Bool, true, false}
use mathlib.Core.List.{List}
use lib.ListN.{length}
use Rattle.std.specs.Prelude.{Result, Ok, Err}
use lib.Dec.{ltb}
use borrow.Author.Tests.{lt-ltb, le-ltb}
use Rattle.syntax.specs.Limits.{literals}
use Rattle.syntax.specs.Tokens.{same_kind, name_kind}
use Rattle.syntax.specs.declared.Refusal.{Refusal}
use Rattle.syntax.specs.Reading.{Cursor, Read, fault, ok, begins, start_of, literal_with, plain_with, read_plain}
use Rattle.syntax.specs.Words.{node_words}
use Rattle.syntax.specs.declared.ParserState.{ParserState}
use Rattle.syntax.specs.declared.Token.{Token}
use Rattle.parse.specs.Gives.{cursor_of, bytes_left, RoomToRead, Refused, full_number, literal_form, Form, Gives}
use Rattle.parse.specs.declared.Parsed.{Parsed}
use Rattle.parse.proofs.TermLaws.{list_full}
use Rattle.parse.specs.Counted.{with_literal}

-- ---- a literal that is no bracket

-- the state with one literal more stands where it stood
pub counted_ready : {s : List ℕ} {st more : ParserState} {table : List ℕ} {n spare : ℕ} → RoomToRead s st table n spare → more ≡ with_literal st
    → RoomToRead s more table n spare
counted_ready {s} {st} {more} {table} {n} {spare} ready e =
    subst⁻¹ (λ (x : ParserState). RoomToRead s x table n spare) e (record {
      standing = record {
        inside = ready.standing.inside;
        some = ready.standing.some;
        brief = ready.standing.brief;
        few = ready.standing.few;
        short = ready.standing.short;
      };
      held = ready.held;
      room = ready.room;
      small = ready.small;
    })

-- what is read from a state with the same token
from-same : {A : Type 0} (f : Form A) (s : List ℕ) (st more : ParserState) (entry exit : List ℕ) (n : ℕ) (r : Result Parsed Refusal) (d : Read A)
    → st.token ≡ more.token → Gives f s more entry exit n r d → Gives f s st entry exit n r d
from-same f s st more entry exit n (Err q) (fault k b) e g = g
from-same f s st more entry exit n (Err q) (ok a after) e g = g
from-same f s st more entry exit n (Ok r) (fault k b) e g = g
from-same f s st more entry exit n (Ok r) (ok a after) e g =
    record {
      state_is = g.state_is;
      items_is = g.items_is;
      used_is = g.used_is;
      table_is = g.table_is;
      standing = g.standing;
      held = g.held;
      room = subst⁻¹ (λ (t : Token). length (f.words a) + node_words * bytes_left s r.state + f.spare ≤ node_words * (length s - t.at) + 1) e g.room;
    }

module _ (most : ℕ) (s : List ℕ) (st : ParserState) (entry : List ℕ) (n : ℕ) where
  plain_by : (b : Bool) → ltb st.literals literals ≡ b → read_plain most s (cursor_of s entry st) ≡ plain_with most s (cursor_of s entry st) b
  unfolding read_plain
  plain_by b e = ap (plain_with most s (cursor_of s entry st)) e

  counted-cursor : cursor_of s entry (with_literal st) ≡ record { token = st.token; names = (cursor_of s entry st).names; literals = suc st.literals }
  counted-cursor = ap (λ (k : ℕ). record { token = st.token; names = (cursor_of s entry st).names; literals = k }) (add-one st.literals)

  pub plain-one : (r : Result Parsed Refusal) (exit : List ℕ) (more : ParserState) → st.literals < literals → more ≡ with_literal st
      → Gives literal_form s more entry exit n r (literal_with most s (cursor_of s entry more) (same_kind more.token.kind name_kind))
      → Gives literal_form s st entry exit n r (read_plain most s (cursor_of s entry st))
  unfolding plain_with
  plain-one r exit more h e g =
      subst⁻¹ (Gives literal_form s st entry exit n r) (plain_by true (lt-ltb st.literals literals h))
      (subst (λ (c : Cursor). Gives literal_form s st entry exit n r (literal_with most s c (same_kind st.token.kind name_kind))) counted-cursor
      (from-same literal_form s st (with_literal st) entry exit n r
      (literal_with most s (cursor_of s entry (with_literal st)) (same_kind st.token.kind name_kind)) refl
      (subst (λ (x : ParserState). Gives literal_form s x entry exit n r (literal_with most s (cursor_of s entry x) (same_kind x.token.kind name_kind))) e g)))

  pub plain-full : (r : Refusal) → literals ≤ st.literals → Refused st (full_number (begins (start_of st.token.kind)) st.token.kind) r
      → Gives literal_form s st entry entry n (Err r) (read_plain most s (cursor_of s entry st))
  unfolding plain_with
  plain-full r h g =
      subst⁻¹ (Gives literal_form s st entry entry n (Err r)) (plain_by false (le-ltb st.literals literals h))
      (list_full literal_form s st st entry n r (cursor_of s entry st) refl g)
