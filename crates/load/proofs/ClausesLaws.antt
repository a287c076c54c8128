-- Laws for the function on one clause, one for each way out. Assumes nothing.
use Prim.Native.Nat.{ℕ, ◌+◌, ◌-◌, ◌≤◌, ◌<◌}
use native.Mathlib.Omega.{arith}
use mathlib.Core.Path.{◌≡◌, ap, ap₂, ◌∙◌, subst⁻¹}
use mathlib.Core.List.{List}
use lib.ListN.{length, get_or}
use Rattle.syntax.specs.Terms.{term_of, Body, Clause}
use Rattle.syntax.specs.Words.{atom_words, body_words, body_length, program_clauses}
use Rattle.machine.specs.Machine.{next_for}
use Rattle.words.specs.Tables.{WordsAt, NodeInTable}
use Rattle.words.proofs.TablesLaws.{has_left, has_right, size_is, term_inside}
use Rattle.run_layout.specs.Regions.{places, code_words, clause_record, next_literal, literal_from}
use Rattle.run_layout.specs.Nodes.{Symbol, loaded_words}
use Rattle.run_layout.specs.Program.{body_nodes, clause_nodes}
use Rattle.run_layout.proofs.Nodes.{size_word}
use Rattle.load.specs.declared.records.Places.{Places}
use Rattle.load.specs.Records.{put_pair}
use Rattle.load.specs.ClausesRecords.{put_body, behind_body, put_clause}
use Rattle.load.specs.declared.next_clauses.Heads.{Heads}
use Rattle.load.specs.Search.{sought, HeadsPlaced, Meant}
use Rattle.load.specs.ClausesPlaces.{BodyTo, ClauseTo}
use Rattle.load.proofs.ClausesSizes.{Says, says}
use Rattle.load.proofs.Seeking.{atom-word, atom-listed, searchable, next_is}
use Rattle.load.proofs.ClausesWriting.{SameHeads, pair-heads, headed-kept}
use Rattle.load.proofs.RecordsWriting.{pair-long}
use Rattle.load.proofs.ItemsLaws.{loaded-fits, next-bound}

-- ---- one clause

pub head-stands : (ss : List Symbol) (nodes : List ℕ) (q : ℕ) (cl : Clause) → WordsAt nodes q (clause_nodes ss cl) → WordsAt nodes q (loaded_words ss (term_of cl.head))
unfolding clause_nodes
head-stands ss nodes q cl h = has_left nodes q (loaded_words ss (term_of cl.head)) (body_nodes ss cl.body) h

body-stand : (ss : List Symbol) (nodes : List ℕ) (q : ℕ) (cl : Clause) → WordsAt nodes q (clause_nodes ss cl) → WordsAt nodes (q + length (loaded_words ss (term_of cl.head))) (body_nodes ss cl.body)
unfolding clause_nodes
body-stand ss nodes q cl h = has_right nodes q (loaded_words ss (term_of cl.head)) (body_nodes ss cl.body) h

module _ {table : List ℕ} {heads : Heads} {code : List ℕ} {k : ℕ} {at : Places} where
  module _ {m : Meant} {cl : Clause} (w : ClauseTo m cl table heads code k at) where
    said : Says m.ss table at.read cl
    said = says m.ss table at.read cl w.has

    stands : WordsAt heads.nodes.now at.node (loaded_words m.ss (term_of cl.head))
    stands = head-stands m.ss heads.nodes.now at.node cl w.stand

    pub head-inside : at.node < length heads.nodes.now
    head-inside = (atom-word m.ss heads.nodes.now at.node cl.head stands).0

    pub clause-search : HeadsPlaced heads.nodes.now code heads.clauses × (k ≤ heads.clauses)
    clause-search = (searchable w.headed, w.high)

    pub clause-small : k ≤ program_clauses
    clause-small = let a : heads.clauses ≤ program_clauses = w.headed.few in let b : k ≤ heads.clauses = w.high in omega arith

    pub clause-inside : at.read + 3 ≤ length table
    clause-inside = let a : at.read + 2 < length table = said.inside in omega arith

    pub head-fits : NodeInTable table (at.read + 3)
    head-fits = term_inside table (at.read + 3) (term_of cl.head) said.head

    pub head-node-fits : NodeInTable heads.nodes.now at.node
    head-node-fits = loaded-fits m.ss heads.nodes.now at.node (term_of cl.head) stands

    -- the records of its body, and the place behind them
    pub body-small : {literals : ℕ} → literals ≡ get_or table (at.read + 2) 0 → (at.literal ≤ places) × ((literals ≤ places) × (next_literal (literal_from at.literal literals) ≤ places))
    body-small {literals} g =
        let many : literals ≡ body_length cl.body = g ∙ said.literals in
        let room : behind_body at.literal cl.body ≤ length code = w.room in
        let short : length code ≤ places = w.headed.short in
        (omega arith, (omega arith, omega arith))

  module _ {word after : ℕ} (v : word ≡ get_or heads.nodes.now at.node 0) (s : after ≡ sought heads.nodes.now code word (k + 1) (heads.clauses - k)) where
    after_is : {m : Meant} {cl : Clause} → ClauseTo m cl table heads code k at → after ≡ next_for m.sh cl.head k
    after_is {m} {cl} w = next_is w.headed cl.head (atom-listed m.ss cl.head w.head_loadable) word k after (v ∙ (atom-word m.ss heads.nodes.now at.node cl.head (stands w)).1) s

    pub pair-ready : {m : Meant} {cl : Clause} → ClauseTo m cl table heads code k at
        → (clause_record k + 1 + 1 < length code) × ((at.literal < 4294967296) × (after < 4294967296))
    pair-ready {m} {cl} w =
        let a : after ≡ next_for m.sh cl.head k = after_is w in
        let b : next_for m.sh cl.head k ≤ program_clauses + 1 = next-bound w.headed cl.head k w.high in
        let c : k ≤ program_clauses = clause-small w in
        let d : code_words ≤ length code = w.headed.room in
        let e : behind_body at.literal cl.body ≤ length code = w.room in
        let f : length code ≤ places = w.headed.short in
        (omega arith, (omega arith, omega arith))

    module _ {new : List ℕ} (n : new ≡ put_pair code (clause_record k + 1) at.literal after) {literals first node : ℕ}
        (g : literals ≡ get_or table (at.read + 2) 0) (f : first ≡ at.read + 3 + get_or table (at.read + 3 + 1) 0) (o : node ≡ at.node + get_or heads.nodes.now (at.node + 1) 0) where
      node-is : {m : Meant} {cl : Clause} → ClauseTo m cl table heads code k at → node ≡ at.node + length (loaded_words m.ss (term_of cl.head))
      node-is {m} {cl} w = o ∙ ap (λ (i : ℕ). at.node + i) (size_word m.ss heads.nodes.now at.node (term_of cl.head) (stands w))

      pub body-ready : {m : Meant} {cl : Clause} → ClauseTo m cl table heads code k at → BodyTo m cl.body table literals heads new (record { read = first; node = node; literal = at.literal })
      body-ready {m} {cl} w =
          let z : get_or table (at.read + 3 + 1) 0 ≡ length (atom_words cl.head) = size_is table (at.read + 3) (term_of cl.head) (said w).head in
          let long : length new ≡ length code = ap length n ∙ pair-long code (clause_record k + 1) at.literal after in
          let many : literals ≡ body_length cl.body = g ∙ (said w).literals in
          let room : behind_body at.literal cl.body ≤ length code = w.room in
          let fits : at.node + get_or heads.nodes.now (at.node + 1) 0 ≤ length heads.nodes.now = (head-node-fits w).1 in
          record {
            headed = headed-kept long (subst⁻¹ (SameHeads code) n (pair-heads code k at.literal after)) w.headed;
            has = subst⁻¹ (λ (i : ℕ). WordsAt table i (body_words cl.body)) (f ∙ ap (λ (i : ℕ). at.read + 3 + i) z) (said w).body;
            count = many;
            stand = subst⁻¹ (λ (i : ℕ). WordsAt heads.nodes.now i (body_nodes m.ss cl.body)) (node-is w) (body-stand m.ss heads.nodes.now at.node cl w.stand);
            loadable = w.body-loadable;
            node = omega arith;
            low = w.place;
            high = omega arith;
          }

      pub clause-put : {exit : List ℕ} → ((m : Meant) (b : Body) → BodyTo m b table literals heads new (record { read = first; node = node; literal = at.literal }) → exit ≡ put_body m.ss m.sh node b new at.literal)
          → {ends r : ℕ} → ends ≡ literal_from at.literal literals → r ≡ next_literal ends
          → (m : Meant) (cl : Clause) → ClauseTo m cl table heads code k at → (exit ≡ put_clause m.ss m.sh at.node cl code k at.literal) × (r ≡ behind_body at.literal cl.body)
      unfolding put_clause
      clause-put {exit} x {ends} {r} d e m cl w =
          let many : literals ≡ body_length cl.body = g ∙ (said w).literals in (
            x m cl.body (body-ready w)
                ∙ ap₂ (λ (i : ℕ) (c : List ℕ). put_body m.ss m.sh i cl.body c at.literal) (node-is w) (n ∙ ap (λ (i : ℕ). put_pair code (clause_record k + 1) at.literal i) (after_is w)),
            omega arith,
          )
