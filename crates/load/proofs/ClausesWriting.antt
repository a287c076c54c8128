-- Laws of a body's records: what they leave as it was, the heads' places among it. Assumes nothing.
use Prim.Native.Nat.{ℕ, suc, ◌+◌, ◌≤◌, ◌<◌}
use native.Mathlib.Omega.{arith}
use mathlib.Core.Path.{◌≡◌, ◌∙◌, subst⁻¹}
use mathlib.Core.List.{List, [], ◌∷◌}
use lib.ListN.{length, get_or, length-set}
use lib.Seq.{get_or-set_other}
use Rattle.syntax.specs.Terms.{term_of, Clause, Sheet}
use Rattle.syntax.specs.Words.{program_clauses}
use Rattle.words.specs.Items.{Item}
use Rattle.run_layout.specs.Regions.{places, body_end_kind, bodies, code_words, next_literal, clause_record}
use Rattle.run_layout.specs.Nodes.{Symbol, TermLoaded}
use Rattle.run_layout.specs.Program.{head_at}
use Rattle.load.specs.Records.{put_pair, put_record}
use Rattle.load.specs.ItemsRecords.{kind_of, item_nodes, other_of}
use Rattle.load.specs.ClausesRecords.{put_items}
use Rattle.load.specs.declared.next_clauses.Heads.{Heads}
use Rattle.load.specs.Search.{HeadsLoaded, Meant, Headed}
use Rattle.load.proofs.RecordsWriting.{pair-other, record-long, record-below}

-- ---- a body

module _ (ss : List Symbol) (sh : Sheet) where
  pub body-long : (q : ℕ) (xs : List Item) (code : List ℕ) (l : ℕ) → length (put_items ss sh q xs code l) ≡ length code
  unfolding put_items
  body-long q [] code l = simp length-set
  body-long q (x ∷ xs) code l =
      body-long (q + length (item_nodes ss x)) xs (put_record code l (kind_of x) q (other_of ss sh q l x)) (next_literal l) ∙ record-long code l (kind_of x) q (other_of ss sh q l x)

  pub body_below : (q : ℕ) (xs : List Item) (code : List ℕ) (l i : ℕ) → i < l → get_or (put_items ss sh q xs code l) i 0 ≡ get_or code i 0
  unfolding put_items
  body_below q [] code l i k = get_or-set_other code l i body_end_kind 0 (λ e. omega arith)
  body_below q (x ∷ xs) code l i k =
      body_below (q + length (item_nodes ss x)) xs (put_record code l (kind_of x) q (other_of ss sh q l x)) (next_literal l) i (omega arith)
      ∙ record-below code l (kind_of x) q (other_of ss sh q l x) i k

-- ---- heads

-- the places of the heads stay
abbrev pub SameHeads : List ℕ → List ℕ → Type 0
SameHeads code new = (j : ℕ) → j ≤ program_clauses → head_at new j ≡ head_at code j

module _ (ss : List Symbol) (nodes : List ℕ) where
  pub heads-kept : (code new : List ℕ) → SameHeads code new → (k : ℕ) (cls : List Clause) → k + length cls ≤ program_clauses + 1 → HeadsLoaded ss nodes code k cls → HeadsLoaded ss nodes new k cls
  heads-kept code new f k [] l h = tt
  heads-kept code new f k (cl ∷ cls) l h =
      let z : k + suc (length cls) ≤ program_clauses + 1 = l in
      (subst⁻¹ (λ (i : ℕ). TermLoaded ss nodes i (term_of cl.head)) (f k (omega arith)) h.0, heads-kept code new f (k + 1) cls (omega arith) h.1)

pub headed-kept : {m : Meant} {h : Heads} {code new : List ℕ} → length new ≡ length code → SameHeads code new → Headed m h code → Headed m h new
headed-kept {m} {h} {code} {new} n f w =
    let e : h.clauses ≡ length m.sh.clauses = w.count in
    let few : h.clauses ≤ program_clauses = w.few in
    let room : code_words ≤ length code = w.room in
    let short : length code ≤ places = w.short in
    record {
      count = w.count;
      few = w.few;
      heads = heads-kept m.ss h.nodes.now code new f 1 m.sh.clauses (omega arith) w.heads;
      room = omega arith;
      short = omega arith;
      nodes_short = w.nodes_short;
    }

-- a record or a body behind the clauses leaves the heads
pub record-heads : (code : List ℕ) (l kind place other : ℕ) → bodies ≤ l → SameHeads code (put_record code l kind place other)
record-heads code l kind place other r j k = record-below code l kind place other (clause_record j) (omega arith)

pub body-heads : (ss : List Symbol) (sh : Sheet) (q : ℕ) (xs : List Item) (code : List ℕ) (l : ℕ) → bodies ≤ l → SameHeads code (put_items ss sh q xs code l)
body-heads ss sh q xs code l r j k = body_below ss sh q xs code l (clause_record j) (omega arith)

pub pair-heads : (code : List ℕ) (k a b : ℕ) → SameHeads code (put_pair code (clause_record k + 1) a b)
pair-heads code k a b j l = pair-other code (clause_record k + 1) a b (clause_record j) (λ e. omega arith) (λ e. omega arith)
