-- Laws for the functions that go along the clauses, one for each way out. Assumes nothing.
use Prim.Native.Nat.{ℕ, suc, ◌+◌, ◌≤◌, ◌<◌}
use native.Mathlib.Omega.{arith}
use mathlib.Core.Path.{◌≡◌, refl, ap, ap₂, ◌∙◌, subst⁻¹}
use mathlib.Core.Bool.{◌&&◌}
use mathlib.Core.List.{List, [], ◌∷◌}
use lib.Dec.{T}
use lib.ListN.{length, set, length-set, length-append}
use Rattle.syntax.specs.Terms.{term_of, Clause}
use Rattle.syntax.specs.Words.{body_length, clause_words, clauses_words, program_clauses}
use Rattle.machine.proofs.Tests.{both}
use Rattle.words.specs.Tables.{WordsAt}
use Rattle.words.proofs.TablesLaws.{has_left, has_right}
use Rattle.run_layout.specs.Regions.{places, bodies, clause_record, literal_from}
use Rattle.run_layout.specs.Nodes.{Symbol, is_loadable}
use Rattle.run_layout.specs.Limits.{ClausesLimited, body_records}
use Rattle.run_layout.specs.Program.{clause_nodes, clauses_nodes, body_loadable, clauses_loadable}
use Rattle.load.specs.declared.records.Places.{Places}
use Rattle.load.specs.ClausesRecords.{behind_body, put_clause}
use Rattle.load.specs.declared.next_clauses.Heads.{Heads}
use Rattle.load.specs.Search.{Meant}
use Rattle.load.specs.ProgramsRecords.{put_heads, put_clauses}
use Rattle.load.specs.ProgramsPlaces.{HeadsTo, ClausesTo}
use Rattle.load.specs.ClausesPlaces.{ClauseTo}
use Rattle.load.proofs.Seeking.{atom-word}
use Rattle.load.proofs.ClausesWriting.{SameHeads, headed-kept}
use Rattle.load.proofs.ProgramsWriting.{Kept, clause-kept}
use Rattle.load.proofs.ItemsLaws.{end-inside}
use Rattle.load.proofs.ClausesLaws.{head-stands}

-- ---- the first of some clauses

first-words : (table : List ℕ) (p : ℕ) (cl : Clause) (cls : List Clause) → WordsAt table p (clauses_words (cl ∷ cls)) → WordsAt table p (clause_words cl)
unfolding clauses_words
first-words table p cl cls h = has_left table p (clause_words cl) (clauses_words cls) h

-- past the words of a clause at p
abbrev pub Past : List ℕ → ℕ → ℕ → Type 0
Past table p past = (cl : Clause) → WordsAt table p (clause_words cl) → past ≡ p + length (clause_words cl)

rest-words : (table : List ℕ) (p past : ℕ) (cl : Clause) (cls : List Clause) → Past table p past → WordsAt table p (clauses_words (cl ∷ cls)) → WordsAt table past (clauses_words cls)
unfolding clauses_words
rest-words table p past cl cls e h =
    subst⁻¹ (λ (k : ℕ). WordsAt table k (clauses_words cls)) (e cl (first-words table p cl cls h)) (has_right table p (clause_words cl) (clauses_words cls) h)

clauses-sum : (ss : List Symbol) (cl : Clause) (cls : List Clause) → length (clauses_nodes ss (cl ∷ cls)) ≡ length (clause_nodes ss cl) + length (clauses_nodes ss cls)
unfolding clauses_nodes
clauses-sum ss cl cls = length-append (clause_nodes ss cl) (clauses_nodes ss cls)

-- ---- heads

-- What is left of the heads, from number k on, makes the whole.
pub record HeadsAhead (ss : List Symbol) (whole table : List ℕ) (at node clauses : ℕ) (code : List ℕ) (k : ℕ) : Type 0 where
  pub rest : List Clause
  pub ready : HeadsTo ss rest table at node clauses code k
  pub gives : put_heads ss node rest code k ≡ whole

pub heads-begin : (ss : List Symbol) (cls : List Clause) (table : List ℕ) (q clauses : ℕ) (code : List ℕ) → HeadsTo ss cls table 0 q clauses code 1 → HeadsAhead ss (put_heads ss q cls code 1) table 0 q clauses code 1
heads-begin ss cls table q clauses code w = record { rest = cls; ready = w; gives = refl }

module _ (table : List ℕ) (at node clauses : ℕ) (code : List ℕ) (k : ℕ) (l : k ≤ clauses) where
  clause-in : (ss : List Symbol) (cls : List Clause) → HeadsTo ss cls table at node clauses code k → (cl : Clause) × WordsAt table at (clause_words cl)
  clause-in ss [] w = absurd (let z : k + 0 ≡ suc clauses = w.count in omega arith)
  clause-in ss (cl ∷ cls) w = (cl, first-words table at cl cls w.has)

  pub heads-clause : (ss : List Symbol) (whole : List ℕ) → HeadsAhead ss whole table at node clauses code k → (cl : Clause) × WordsAt table at (clause_words cl)
  heads-clause ss whole w = clause-in ss w.rest w.ready

  pub heads-room : (ss : List Symbol) (whole : List ℕ) → HeadsAhead ss whole table at node clauses code k → (k ≤ program_clauses) × ((clause_record k < length code) × (node ≤ places))
  heads-room ss whole w =
      let a : clauses ≤ program_clauses = w.ready.few in
      let b : bodies ≤ length code = w.ready.long in
      let c : node + length (clauses_nodes ss w.rest) ≤ places = w.ready.node in
      (omega arith, (omega arith, omega arith))

  module _ (size : ℕ) (z : (ss : List Symbol) (cl : Clause) → WordsAt table at (clause_words cl) → size ≡ length (clause_nodes ss cl)) where
    size_fits : (ss : List Symbol) (cls : List Clause) → HeadsTo ss cls table at node clauses code k → node + size ≤ places
    size_fits ss [] w = absurd (let y : k + 0 ≡ suc clauses = w.count in omega arith)
    size_fits ss (cl ∷ cls) w =
        let e : size ≡ length (clause_nodes ss cl) = z ss cl (first-words table at cl cls w.has) in
        let s : length (clauses_nodes ss (cl ∷ cls)) ≡ length (clause_nodes ss cl) + length (clauses_nodes ss cls) = clauses-sum ss cl cls in
        let n : node + length (clauses_nodes ss (cl ∷ cls)) ≤ places = w.node in
        omega arith

    pub heads-size : (ss : List Symbol) (whole : List ℕ) → HeadsAhead ss whole table at node clauses code k → node + size ≤ places
    heads-size ss whole w = size_fits ss w.rest w.ready

    module _ (new : List ℕ) (n : new ≡ set code (clause_record k) node) (past : ℕ) (m : Past table at past) where
      next-in : (ss : List Symbol) (whole : List ℕ) (cls : List Clause) → HeadsTo ss cls table at node clauses code k → put_heads ss node cls code k ≡ whole → HeadsAhead ss whole table past (node + size) clauses new (k + 1)
      unfolding put_heads
      next-in ss whole [] w g = absurd (let y : k + 0 ≡ suc clauses = w.count in omega arith)
      next-in ss whole (cl ∷ cls) w g =
          let f : node + size ≡ node + length (clause_nodes ss cl) = ap (λ (i : ℕ). node + i) (z ss cl (first-words table at cl cls w.has)) in
          let s : length (clauses_nodes ss (cl ∷ cls)) ≡ length (clause_nodes ss cl) + length (clauses_nodes ss cls) = clauses-sum ss cl cls in
          let o : node + length (clauses_nodes ss (cl ∷ cls)) ≤ places = w.node in
          let many : k + suc (length cls) ≡ suc clauses = w.count in
          let long : length new ≡ length code = ap length n ∙ simp length-set in
          let b : bodies ≤ length code = w.long in
          record {
            rest = cls;
            ready = record {
              has = rest-words table at past cl cls m w.has;
              few = w.few;
              low = omega arith;
              count = omega arith;
              long = omega arith;
              node = omega arith;
            };
            gives = ap₂ (λ (i : ℕ) (c : List ℕ). put_heads ss i cls c (k + 1)) f n ∙ g;
          }

      pub heads-next : (ss : List Symbol) (whole : List ℕ) → HeadsAhead ss whole table at node clauses code k → HeadsAhead ss whole table past (node + size) clauses new (k + 1)
      heads-next ss whole w = next-in ss whole w.rest w.ready w.gives

pub heads-end : (ss : List Symbol) (whole table : List ℕ) (at node clauses : ℕ) (code : List ℕ) (k : ℕ) → clauses < k → HeadsAhead ss whole table at node clauses code k → code ≡ whole
unfolding put_heads
heads-end ss whole table at node clauses code k l w = go w.rest w.ready.count w.gives
  where
    go : (cls : List Clause) → k + length cls ≡ suc clauses → put_heads ss node cls code k ≡ whole → code ≡ whole
    go [] c g = g
    go (cl ∷ cls) c g = absurd (let z : k + suc (length cls) ≡ suc clauses = c in omega arith)

-- ---- all clauses

-- What is left of the clauses, from number k on, makes the whole.
pub record ClausesAhead (m : Meant) (whole table : List ℕ) (heads : Heads) (code : List ℕ) (k : ℕ) (at : Places) : Type 0 where
  pub rest : List Clause
  pub ready : ClausesTo m rest table heads code k at
  pub gives : put_clauses m.ss m.sh at.node rest code k at.literal ≡ whole

pub clauses-begin : {m : Meant} {cls : List Clause} {table : List ℕ} {heads : Heads} {code : List ℕ} {at : Places} → ClausesTo m cls table heads code 1 at
    → ClausesAhead m (put_clauses m.ss m.sh at.node cls code 1 at.literal) table heads code 1 at
clauses-begin {cls = cls} w = record { rest = cls; ready = w; gives = refl }

-- the first clause and the rest
record Split (m : Meant) (cl : Clause) (cls : List Clause) (table : List ℕ) (heads : Heads) (code : List ℕ) (k : ℕ) (at : Places) : Type 0 where
  clause : ClauseTo m cl table heads code k at
  stand : WordsAt heads.nodes.now (at.node + length (clause_nodes m.ss cl)) (clauses_nodes m.ss cls)
  loadable : T (clauses_loadable m.ss cls)
  limited : ClausesLimited cls
  inside : at.node + length (clause_nodes m.ss cl) ≤ length heads.nodes.now
  room : literal_from (behind_body at.literal cl.body) (body_records cls) ≤ length code

split : {table : List ℕ} {heads : Heads} {code : List ℕ} {k : ℕ} {at : Places} → k ≤ heads.clauses → {m : Meant} (cl : Clause) (cls : List Clause) → ClausesTo m (cl ∷ cls) table heads code k at
    → Split m cl cls table heads code k at
unfolding clauses_nodes clauses_loadable body_records
split {table} {heads} {code} {k} {at} high {m} cl cls w =
    let oks : T (is_loadable m.ss (term_of cl.head) && body_loadable m.ss cl.body) × T (clauses_loadable m.ss cls) = both (is_loadable m.ss (term_of cl.head) && body_loadable m.ss cl.body) (clauses_loadable m.ss cls) w.loadable in
    let ok : T (is_loadable m.ss (term_of cl.head)) × T (body_loadable m.ss cl.body) = both (is_loadable m.ss (term_of cl.head)) (body_loadable m.ss cl.body) oks.0 in
    let first : WordsAt heads.nodes.now at.node (clause_nodes m.ss cl) = has_left heads.nodes.now at.node (clause_nodes m.ss cl) (clauses_nodes m.ss cls) w.stand in
    let inside : at.node < length heads.nodes.now = (atom-word m.ss heads.nodes.now at.node cl.head (head-stands m.ss heads.nodes.now at.node cl first)).0 in
    let room : literal_from at.literal (suc (body_length cl.body) + body_records cls) ≤ length code = w.room in
    record {
      clause = record {
        headed = w.headed;
        has = first-words table at.read cl cls w.has;
        stand = first;
        head_loadable = ok.0;
        body-loadable = ok.1;
        low = w.low;
        high = high;
        place = w.place;
        room = omega arith;
      };
      stand = has_right heads.nodes.now at.node (clause_nodes m.ss cl) (clauses_nodes m.ss cls) w.stand;
      loadable = oks.1;
      limited = w.limited.1;
      inside = end-inside heads.nodes.now at.node (clause_nodes m.ss cl) (omega arith) first;
      room = omega arith;
    }

module _ {m : Meant} {whole table : List ℕ} {heads : Heads} {code : List ℕ} {k : ℕ} {at : Places} where
  pub clauses-end : heads.clauses < k → ClausesAhead m whole table heads code k at → code ≡ whole
  unfolding put_clauses
  clauses-end over w = go w.rest w.ready.count w.gives
    where
      go : (cls : List Clause) → k + length cls ≡ suc heads.clauses → put_clauses m.ss m.sh at.node cls code k at.literal ≡ whole → code ≡ whole
      go [] c g = g
      go (cl ∷ cls) c g = absurd (let z : k + suc (length cls) ≡ suc heads.clauses = c in omega arith)

  module _ (high : k ≤ heads.clauses) (w : ClausesAhead m whole table heads code k at) where
    pub ahead-clause : (cl : Clause) × ClauseTo m cl table heads code k at
    ahead-clause = go w.rest w.ready
      where
        go : (cls : List Clause) → ClausesTo m cls table heads code k at → (cl : Clause) × ClauseTo m cl table heads code k at
        go [] v = absurd (let z : k + 0 ≡ suc heads.clauses = v.count in omega arith)
        go (cl ∷ cls) v = (cl, (split high cl cls v).clause)

    -- the clause of a turn, which its words and its nodes leave inside
    pub clause-here : (cl : Clause) × WordsAt table at.read (clause_words cl)
    clause-here = (ahead-clause.0, ahead-clause.1.has)

    module _ {size : ℕ} (z : (ss : List Symbol) (cl : Clause) → WordsAt table at.read (clause_words cl) → size ≡ length (clause_nodes ss cl)) where
      pub node-fits : at.node + size ≤ places
      node-fits = go w.rest w.ready
        where
          go : (cls : List Clause) → ClausesTo m cls table heads code k at → at.node + size ≤ places
          go [] v = absurd (let y : k + 0 ≡ suc heads.clauses = v.count in omega arith)
          go (cl ∷ cls) v =
              let o : Split m cl cls table heads code k at = split high cl cls v in
              let e : size ≡ length (clause_nodes m.ss cl) = z m.ss cl o.clause.has in
              let i : at.node + length (clause_nodes m.ss cl) ≤ length heads.nodes.now = o.inside in
              let s : length heads.nodes.now ≤ places = v.headed.nodes_short in
              omega arith

      module _ {new : List ℕ} {to : ℕ} (n : (m : Meant) (cl : Clause) → ClauseTo m cl table heads code k at → (new ≡ put_clause m.ss m.sh at.node cl code k at.literal) × (to ≡ behind_body at.literal cl.body))
          {past : ℕ} (d : Past table at.read past) where
        pub clauses-next : ClausesAhead m whole table heads new (k + 1) (record { read = past; node = at.node + size; literal = to })
        unfolding put_clauses
        clauses-next = go w.rest w.ready w.gives
          where
            go : (cls : List Clause) → ClausesTo m cls table heads code k at → put_clauses m.ss m.sh at.node cls code k at.literal ≡ whole
                → ClausesAhead m whole table heads new (k + 1) (record { read = past; node = at.node + size; literal = to })
            go [] v g = absurd (let y : k + 0 ≡ suc heads.clauses = v.count in omega arith)
            go (cl ∷ cls) v g =
                let o : Split m cl cls table heads code k at = split high cl cls v in
                let f : at.node + size ≡ at.node + length (clause_nodes m.ss cl) = ap (λ (i : ℕ). at.node + i) (z m.ss cl o.clause.has) in
                let new_is : new ≡ put_clause m.ss m.sh at.node cl code k at.literal = (n m cl o.clause).0 in
                let to_is : to ≡ behind_body at.literal cl.body = (n m cl o.clause).1 in
                let few : heads.clauses ≤ program_clauses = v.headed.few in
                let kept : Kept code (put_clause m.ss m.sh at.node cl code k at.literal) k at.literal = clause-kept m.ss m.sh at.node cl code k at.literal (omega arith) v.place in
                let long : length new ≡ length code = ap length new_is ∙ kept.long in
                let many : k + suc (length cls) ≡ suc heads.clauses = v.count in
                let low : bodies ≤ at.literal = v.place in
                let room : literal_from (behind_body at.literal cl.body) (body_records cls) ≤ length code = o.room in
                record {
                  rest = cls;
                  ready = record {
                    headed = headed-kept long (subst⁻¹ (SameHeads code) new_is kept.heads) v.headed;
                    has = rest-words table at.read past cl cls d v.has;
                    stand = subst⁻¹ (λ (i : ℕ). WordsAt heads.nodes.now i (clauses_nodes m.ss cls)) f o.stand;
                    loadable = o.loadable;
                    limited = o.limited;
                    low = omega arith;
                    count = omega arith;
                    place = omega arith;
                    room = omega arith;
                  };
                  gives = ap₂ (λ (i : ℕ) (c : List ℕ). put_clauses m.ss m.sh i cls c (k + 1) to) f new_is ∙ (ap (put_clauses m.ss m.sh (at.node + length (clause_nodes m.ss cl)) cls (put_clause m.ss m.sh at.node cl code k at.literal) (k + 1)) to_is ∙ g);
                }
