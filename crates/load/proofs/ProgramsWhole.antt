-- What linking leaves is the loaded program. Assumes nothing.
use Prim.Native.Nat.{ℕ, zero, suc, ◌+◌, ◌*◌, ◌≤◌, ◌<◌}
use native.Mathlib.Omega.{arith}
use mathlib.Core.Path.{◌≡◌, sym, ap, ◌∙◌, subst, subst⁻¹}
use mathlib.Core.List.{List, [], ◌∷◌, ◌++◌}
use mathlib.Core.Option.{some}
use lib.ListN.{length, get_or, length-append}
use Rattle.syntax.specs.Limits.{clauses as most_clauses, most_facts}
use Rattle.syntax.specs.Terms.{term_of, Body, Clause}
use Rattle.syntax.specs.Words.{body_words, body_length, program_clauses}
use Rattle.run_layout.specs.Regions.{places, most_items, bodies, clause_bodies, code_words, next_literal, literal_from}
use Rattle.machine.specs.Machine.{clause_at}
use Rattle.machine.specs.Low.{ClausesShort}
use Rattle.run_layout.specs.Limits.{ClausesLimited, body_records}
use Rattle.machine.proofs.Tests.{some-none}
use Rattle.words.specs.Tables.{WordsAt}
use Rattle.run_layout.specs.Nodes.{Symbol, TermLoaded}
use Rattle.run_layout.specs.Program.{body_nodes, clauses_nodes, program_nodes, head_at, body_at, BodyLoaded, ClauseLoaded, Program}
use Rattle.words.proofs.TablesLaws.{has_left, has_right}
use Rattle.load.specs.Linking.{Linkable}
use Rattle.load.specs.Records.{put_pair}
use Rattle.load.specs.ClausesRecords.{put_body}
use Rattle.load.specs.ProgramsRecords.{put_heads, put_clauses}
use Rattle.words.specs.Items.{ItemsAt, items}
use Rattle.std.specs.Borrow.{Bor}
use Rattle.load.specs.declared.next_clauses.Heads.{Heads}
use Rattle.load.specs.Search.{HeadsLoaded, Meant, Headed}
use Rattle.load.specs.ClausesPlaces.{BodyTo}
use Rattle.load.specs.ProgramsPlaces.{HeadsTo, ClausesTo, first_clause}
use Rattle.load.proofs.ClausesSizes.{body-nodes}
use Rattle.load.proofs.ProgramsSizes.{few-items}
use Rattle.load.proofs.Seeking.{heads-at}
use Rattle.load.proofs.ClausesWriting.{SameHeads, pair-heads, body-long, body_below, body-heads, headed-kept}
use Rattle.load.proofs.RecordsWriting.{pair-long, pair-first}
use Rattle.load.proofs.ProgramsWriting.{Written, body-written, body_kept, body-stands, heads-long, heads-written, BodyPart, Kept, clauses-kept, clauses-written}
use Rattle.load.proofs.ItemsLaws.{end-inside}

clauses-short : (cls : List Clause) → ClausesLimited cls → ClausesShort cls
clauses-short [] l = tt
clauses-short (cl ∷ cls) l = (l.0.body.short, clauses-short cls l.1)

program-nodes : (ss : List Symbol) (nodes : List ℕ) (b : Body) (cls : List Clause) → WordsAt nodes 0 (body_nodes ss b ++ clauses_nodes ss cls)
    → WordsAt nodes 0 (body_nodes ss b) × WordsAt nodes (length (body_nodes ss b)) (clauses_nodes ss cls) × (length (body_nodes ss b) + length (clauses_nodes ss cls) ≤ length nodes)
program-nodes ss nodes b cls h =
    let e : length (body_nodes ss b ++ clauses_nodes ss cls) ≡ length (body_nodes ss b) + length (clauses_nodes ss cls) = length-append (body_nodes ss b) (clauses_nodes ss cls) in
    let l : 0 + length (body_nodes ss b ++ clauses_nodes ss cls) ≤ length nodes = end-inside nodes 0 (body_nodes ss b ++ clauses_nodes ss cls) (omega arith) h in (
      has_left nodes 0 (body_nodes ss b) (clauses_nodes ss cls) h,
      subst (λ (i : ℕ). WordsAt nodes i (clauses_nodes ss cls)) (let z : 0 + length (body_nodes ss b) ≡ length (body_nodes ss b) = omega arith in z) (has_right nodes 0 (body_nodes ss b) (clauses_nodes ss cls) h),
      omega arith,
    )

module _ {table : List ℕ} {clauses : ℕ} {goals : List ℕ} {literals : ℕ} (nodes : Bor (List ℕ)) {code : List ℕ} (w : Linkable table clauses goals literals nodes.now code) where
  abbrev heads : Heads
  heads = record { nodes = nodes; clauses = clauses }

  abbrev pub meant : Meant
  meant = record { ss = w.ss; sh = w.sh }

  pub goal-at : ItemsAt goals 0 literals w.g.body
  goal-at = record { has = w.has_goal; many = w.literals_count }

  parts : WordsAt nodes.now 0 (body_nodes w.ss w.g.body) × WordsAt nodes.now (length (body_nodes w.ss w.g.body)) (clauses_nodes w.ss w.sh.clauses) × (length (body_nodes w.ss w.g.body) + length (clauses_nodes w.ss w.sh.clauses) ≤ length nodes.now)
  unfolding program_nodes
  parts = program-nodes w.ss nodes.now w.g.body w.sh.clauses w.nodes_stand

  module _ {stop : ℕ} (s : (b : Body) → ItemsAt goals 0 literals b → stop ≡ 0 + length (body_words b)) where
    pub marks-below : literals ≤ stop
    marks-below =
        let a : stop ≡ 0 + length (body_words w.g.body) = s w.g.body goal-at in
        let b : length (body_nodes w.ss w.g.body) * 3 + body_length w.g.body * 2 ≡ length (body_words w.g.body) * 2 = body-nodes w.ss w.g.body in
        let c : literals ≡ body_length w.g.body = w.literals_count in
        omega arith

    module _ {node : ℕ} (z : (n : ℕ) → n * 3 + literals * 2 ≡ stop * 2 → node ≡ n) where
      node-is : node ≡ length (body_nodes w.ss w.g.body)
      node-is =
          let a : stop ≡ 0 + length (body_words w.g.body) = s w.g.body goal-at in
          let b : length (body_nodes w.ss w.g.body) * 3 + body_length w.g.body * 2 ≡ length (body_words w.g.body) * 2 = body-nodes w.ss w.g.body in
          let c : literals ≡ body_length w.g.body = w.literals_count in
          z (length (body_nodes w.ss w.g.body)) (omega arith)

      clauses_stand : WordsAt nodes.now node (clauses_nodes w.ss w.sh.clauses)
      clauses_stand = subst⁻¹ (λ (i : ℕ). WordsAt nodes.now i (clauses_nodes w.ss w.sh.clauses)) node-is parts.1

      pub heads-ready : HeadsTo w.ss w.sh.clauses table 0 node clauses code 1
      heads-ready =
          let a : clauses ≡ length w.sh.clauses = w.clauses_count in
          let b : length w.sh.clauses ≤ program_clauses = w.limits.few in
          let c : code_words ≤ length code = w.code_room in
          let d : length (body_nodes w.ss w.g.body) + length (clauses_nodes w.ss w.sh.clauses) ≤ length nodes.now = parts.2 in
          let e : node ≡ length (body_nodes w.ss w.g.body) = node-is in
          let f : length nodes.now ≤ places = w.nodes_short in
          record { has = w.has_clauses; few = omega arith; low = omega arith; count = omega arith; long = omega arith; node = omega arith }

      module _ {c1 : List ℕ} (e1 : (ss : List Symbol) (cls : List Clause) → HeadsTo ss cls table 0 node clauses code 1 → c1 ≡ put_heads ss node cls code 1) where
        heads-is : c1 ≡ put_heads w.ss node w.sh.clauses code 1
        heads-is = e1 w.ss w.sh.clauses heads-ready

        pub heads-length : length c1 ≡ length code
        heads-length = ap length heads-is ∙ heads-long w.ss node w.sh.clauses code 1

        headed : Headed meant heads c1
        headed =
            let a : clauses ≡ length w.sh.clauses = w.clauses_count in
            let b : length w.sh.clauses ≤ program_clauses = w.limits.few in
            let c : code_words ≤ length code = w.code_room in
            let d : length code ≤ places = w.code_short in
            let n : length c1 ≡ length code = heads-length in
            record {
              count = a;
              few = omega arith;
              heads = subst⁻¹ (λ (i : List ℕ). HeadsLoaded w.ss nodes.now i 1 w.sh.clauses) heads-is (heads-written w.ss nodes.now node w.sh.clauses code 1 clauses_stand w.clauses-loadable w.limits.clauses (omega arith) (omega arith));
              room = omega arith;
              short = omega arith;
              nodes_short = w.nodes_short;
            }

        pub pair-ready : (1 + 1 < length c1) × ((bodies < 4294967296) × (0 < 4294967296))
        pair-ready = let n : length c1 ≡ length code = heads-length in let c : code_words ≤ length code = w.code_room in (omega arith, (omega arith, omega arith))

        module _ {c2 : List ℕ} (e2 : c2 ≡ put_pair c1 1 bodies 0) where
          pub goal-ready : BodyTo meant w.g.body goals literals heads c2 (record { read = 0; node = 0; literal = bodies })
          goal-ready =
              let n : length c2 ≡ length c1 = ap length e2 ∙ pair-long c1 1 bodies 0 in
              let m : length c1 ≡ length code = heads-length in
              let c : code_words ≤ length code = w.code_room in
              let a : literals ≡ body_length w.g.body = w.literals_count in
              let b : body_length w.g.body ≤ most_items = few-items w.g.body w.goal_limits.short in
              record {
                headed = headed-kept n (subst⁻¹ (SameHeads c1) e2 (pair-heads c1 0 bodies 0)) headed;
                has = w.has_goal;
                count = a;
                stand = parts.0;
                loadable = w.goal_loadable;
                node = omega arith;
                low = omega arith;
                high = omega arith;
              }

          module _ {c3 : List ℕ} (e3 : (m : Meant) (b : Body) → BodyTo m b goals literals heads c2 (record { read = 0; node = 0; literal = bodies }) → c3 ≡ put_body m.ss m.sh 0 b c2 bodies) where
            body_is : c3 ≡ put_body w.ss w.sh 0 w.g.body c2 bodies
            body_is = e3 meant w.g.body goal-ready

            body-length : length c3 ≡ length c2
            body-length = ap length body_is ∙ body-long w.ss w.sh 0 (items w.g.body) c2 bodies

            pub clauses-ready : ClausesTo meant w.sh.clauses table heads c3 1 (first_clause node)
            clauses-ready =
                let a : clauses ≡ length w.sh.clauses = w.clauses_count in
                let b : body_records w.sh.clauses ≤ most_clauses * (most_items + 1) + most_facts = w.limits.room in
                let r : code_words ≤ length c2 = goal-ready.headed.room in
                let n : length c3 ≡ length c2 = body-length in
                record {
                  headed = headed-kept body-length (subst⁻¹ (SameHeads c2) body_is (body-heads w.ss w.sh 0 (items w.g.body) c2 bodies (omega arith))) goal-ready.headed;
                  has = w.has_clauses;
                  stand = clauses_stand;
                  loadable = w.clauses-loadable;
                  limited = w.limits.clauses;
                  low = omega arith;
                  count = omega arith;
                  place = omega arith;
                  room = omega arith;
                }

            goal-written : Written w.ss w.sh c3 bodies 0 w.g.body
            goal-written =
                let h : next_literal (literal_from bodies literals) ≤ length c2 = goal-ready.high in
                let a : literals ≡ body_length w.g.body = w.literals_count in
                subst⁻¹ (λ (i : List ℕ). Written w.ss w.sh i bodies 0 w.g.body) body_is (body-written w.ss w.sh bodies 0 w.g.body c2 (omega arith))

            goal-place : get_or c3 1 0 ≡ bodies
            goal-place =
                let m : length c1 ≡ length code = heads-length in
                let c : code_words ≤ length code = w.code_room in
                ap (λ (i : List ℕ). get_or i 1 0) body_is ∙ (body_below w.ss w.sh 0 (items w.g.body) c2 bodies 1 (omega arith) ∙ (ap (λ (i : List ℕ). get_or i 1 0) e2 ∙ pair-first c1 1 bodies 0 (omega arith)))

            module _ {c4 : List ℕ} (e4 : (m : Meant) (cls : List Clause) → ClausesTo m cls table heads c3 1 (first_clause node) → c4 ≡ put_clauses m.ss m.sh node cls c3 1 clause_bodies) where
              clauses-is : c4 ≡ put_clauses w.ss w.sh node w.sh.clauses c3 1 clause_bodies
              clauses-is = e4 meant w.sh.clauses clauses-ready

              kept : Kept c3 c4 1 clause_bodies
              kept =
                  let b : length w.sh.clauses ≤ program_clauses = w.limits.few in
                  subst⁻¹ (λ (i : List ℕ). Kept c3 i 1 clause_bodies) clauses-is (clauses-kept w.ss w.sh node w.sh.clauses c3 1 clause_bodies (omega arith) (omega arith))

              clause_stands : (k : ℕ) (cl : Clause) → clause_at w.sh k ≡ some cl → ClauseLoaded w.ss w.sh nodes.now c4 k cl
              unfolding clause_at
              clause_stands zero cl e = absurd (some-none cl (sym e))
              clause_stands (suc n) cl e =
                  let b : length w.sh.clauses ≤ program_clauses = w.limits.few in
                  let found : (place : ℕ) × BodyPart w.ss w.sh nodes.now (put_clauses w.ss w.sh node w.sh.clauses c3 1 clause_bodies) (1 + n) cl place =
                  clauses-written w.ss w.sh nodes.now node w.sh.clauses c3 1 clause_bodies clauses_stand w.clauses-loadable w.limits.clauses (omega arith) (omega arith) clauses-ready.room n cl e in
                  let part : BodyPart w.ss w.sh nodes.now c4 (suc n) cl found.0 =
                  subst (λ (i : ℕ). BodyPart w.ss w.sh nodes.now c4 i cl found.0) (let q : 1 + n ≡ suc n = omega arith in q)
                  (subst⁻¹ (λ (i : List ℕ). BodyPart w.ss w.sh nodes.now i (1 + n) cl found.0) clauses-is found.1) in
                  let all : Headed meant heads c4 = headed-kept kept.long kept.heads clauses-ready.headed in
                  record {
                    head = subst (λ (i : ℕ). TermLoaded w.ss nodes.now (head_at c4 i) (term_of cl.head)) (let q : 1 + n ≡ suc n = omega arith in q) (heads-at w.ss nodes.now c4 n 1 w.sh.clauses cl e all.heads);
                    body = subst⁻¹ (λ (i : ℕ). BodyLoaded w.ss w.sh nodes.now c4 i cl.body) part.at
                        (body-stands w.ss w.sh found.0 nodes.now c4 part.node cl.body part.body part.stand part.loadable part.limited);
                    after = part.after;
                  }

              pub program : Program w.ss w.sh w.g nodes.now c4
              program =
                  let a : length c4 ≡ length c3 = kept.long in
                  let r : code_words ≤ length c3 = clauses-ready.headed.room in
                  let s3 : length c3 ≤ places = clauses-ready.headed.short in
                  let b : body_length w.g.body ≤ most_items = few-items w.g.body w.goal_limits.short in
                  let place : body_at c4 0 ≡ bodies = kept.records 1 (omega arith) ∙ goal-place in
                  record {
                    small = w.nodes_short;
                    long = omega arith;
                    short = omega arith;
                    few = w.limits.few;
                    bodies_short = clauses-short w.sh.clauses w.limits.clauses;
                    goal_short = w.goal_limits.short;
                    goal = subst⁻¹ (λ (i : ℕ). BodyLoaded w.ss w.sh nodes.now c4 i w.g.body) place
                        (body-stands w.ss w.sh bodies nodes.now c4 0 w.g.body
                        (body_kept w.ss w.sh bodies c3 c4 0 w.g.body a (λ i u v. kept.bodies i u (omega arith)) goal-written)
                        parts.0 w.goal_loadable w.goal_limits.each);
                    clause = clause_stands;
                  }
