-- Laws of copying clauses, one for each way out of the functions. Assumes nothing.
use Prim.Native.Nat.{ℕ, suc, ◌+◌, ◌*◌, ◌≤◌, ◌<◌}
use native.Mathlib.Omega.{arith}
use mathlib.Core.Path.{◌≡◌, refl, sym, ap, ap₂, ◌∙◌, subst}
use mathlib.Core.List.{List, [], ◌∷◌, ◌++◌}
use lib.ListN.{length, get_or, length-append}
use Rattle.syntax.specs.Terms.{term_of, Clause}
use Rattle.syntax.specs.Words.{clause_start, term_words, atom_words, body_words, body_length, clause_words, clauses_words, node_words, goal_words, program_bytes}
use Rattle.marks.specs.Spelt.{ClausesSpelt, clause_stands}
use Rattle.words.specs.Tables.{WordsAt, NodeInTable}
use Rattle.words.proofs.TablesLaws.{has_left, has_right, Node, size_is, term_inside, clause-says}
use Rattle.run_layout.specs.Regions.{loaded_node}
use Rattle.load.specs.Flat.{parsed_words, term_parsed, body_parsed, clause_parsed, clauses_parsed, flat_words, flat_all, put_all, RunAt, BodyHere, ClauseHere, ClausesHere}
use Rattle.load.proofs.NodesWriting.{written-nil, written-append}
use Rattle.load.proofs.Parsed.{parsed-append, flat_append, flat-length, term-words, term_fits, body-long}

-- ---- a clause

head-long : (c : Clause) → length (term_words (term_of c.head)) ≡ length (parsed_words (term_parsed (term_of c.head)))
head-long c = ap length (term-words (term_of c.head))

pub record ClauseParts (table : List ℕ) (p : ℕ) (w : ClauseHere table p) : Type 0 where
  pub inside : p + 3 ≤ length table
  pub fits : NodeInTable table (p + clause_start)
  pub run : (stop : ℕ) → stop ≡ p + 3 + get_or table (p + 3 + 1) 0 → RunAt table (p + 3) stop
  pub here : (stop literals : ℕ) → stop ≡ p + 3 + get_or table (p + 3 + 1) 0 → literals ≡ get_or table (p + 2) 0 → BodyHere table stop literals
  pub near : (stop at q : ℕ) (e : stop ≡ p + 3 + get_or table (p + 3 + 1) 0) → at * node_words ≤ p * loaded_node + goal_words * loaded_node
      → q ≡ at + length (flat_words (flat_all 0 (run stop e).run)) → q * node_words ≤ stop * loaded_node + goal_words * loaded_node
  pub joined : (stop literals at q r : ℕ) (nodes middle after : List ℕ) (e : stop ≡ p + 3 + get_or table (p + 3 + 1) 0) (l : literals ≡ get_or table (p + 2) 0)
      → (middle ≡ put_all nodes at (flat_words (flat_all 0 (run stop e).run))) × (q ≡ at + length (flat_words (flat_all 0 (run stop e).run)))
      → (after ≡ put_all middle q (flat_words (flat_all 0 (body_parsed (here stop literals e l).body)))) × (r ≡ q + length (flat_words (flat_all 0 (body_parsed (here stop literals e l).body))))
      → (after ≡ put_all nodes at (flat_words (flat_all 0 (clause_parsed w.clause)))) × (r ≡ at + length (flat_words (flat_all 0 (clause_parsed w.clause))))

flat-clause : (c : Clause) → flat_words (flat_all 0 (clause_parsed c)) ≡ flat_words (flat_all 0 (term_parsed (term_of c.head))) ++ flat_words (flat_all 0 (body_parsed c.body))
unfolding clause_parsed
flat-clause c = flat_append 0 (term_parsed (term_of c.head)) (body_parsed c.body)

flat-clause-long : (c : Clause) → length (flat_words (flat_all 0 (clause_parsed c))) ≡ length (flat_words (flat_all 0 (term_parsed (term_of c.head)))) + length (flat_words (flat_all 0 (body_parsed c.body)))
flat-clause-long c = ap length (flat-clause c) ∙ length-append (flat_words (flat_all 0 (term_parsed (term_of c.head)))) (flat_words (flat_all 0 (body_parsed c.body)))

pub clause-parts : {table : List ℕ} {p : ℕ} (w : ClauseHere table p) → ClauseParts table p w
clause-parts {table} {p} w =
    let o : Node table p (3 + length (atom_words w.clause.head ++ body_words w.clause.body)) w.clause.variables (body_length w.clause.body) (atom_words w.clause.head ++ body_words w.clause.body) = (clause-says table p w.clause w.has).words in
    let i : p + 2 < length table = o.inside in
    let hh : WordsAt table (p + 3) (term_words (term_of w.clause.head)) = has_left table (p + 3) (term_words (term_of w.clause.head)) (body_words w.clause.body) o.rest in
    let hb : WordsAt table (p + 3 + length (term_words (term_of w.clause.head))) (body_words w.clause.body) = has_right table (p + 3) (term_words (term_of w.clause.head)) (body_words w.clause.body) o.rest in
    let z : length (term_words (term_of w.clause.head)) ≡ length (parsed_words (term_parsed (term_of w.clause.head))) = head-long w.clause in
    let size : get_or table (p + 3 + 1) 0 ≡ length (term_words (term_of w.clause.head)) = size_is table (p + 3) (term_of w.clause.head) hh in
    let third : length (flat_words (flat_all 0 (term_parsed (term_of w.clause.head)))) * 3 ≡ length (parsed_words (term_parsed (term_of w.clause.head))) * 2 = flat-length 0 (term_parsed (term_of w.clause.head)) in
    let long : length (flat_words (flat_all 0 (clause_parsed w.clause))) ≡ length (flat_words (flat_all 0 (term_parsed (term_of w.clause.head)))) + length (flat_words (flat_all 0 (body_parsed w.clause.body))) = flat-clause-long w.clause in
    record {
      inside = omega arith;
      fits = term_inside table (p + clause_start) (term_of w.clause.head) hh;
      run = λ stop e. record {
        run = term_parsed (term_of w.clause.head);
        has = subst (WordsAt table (p + 3)) (term-words (term_of w.clause.head)) hh;
        ends = (let y : stop ≡ p + 3 + length (parsed_words (term_parsed (term_of w.clause.head))) = omega arith in y);
        fit = term_fits w.text w.short (term_of w.clause.head) w.stands.head;
      };
      here = λ stop literals e l. record {
        text = w.text;
        short = w.short;
        body = w.clause.body;
        has = subst (λ (k : ℕ). WordsAt table k (body_words w.clause.body)) (let y : p + 3 + length (term_words (term_of w.clause.head)) ≡ stop = omega arith in y) hb;
        count = l ∙ o.third;
        stands = w.stands.body;
      };
      near = λ stop at q e n m. (let m1 : q ≡ at + length (flat_words (flat_all 0 (term_parsed (term_of w.clause.head)))) = m in let y : q * node_words ≤ stop * loaded_node + goal_words * loaded_node = omega arith in y);
      joined = λ stop literals at q r nodes middle after e l m n. (
        n.0
            ∙ (ap₂ (λ (a : List ℕ) (k : ℕ). put_all a k (flat_words (flat_all 0 (body_parsed w.clause.body)))) m.0 m.1
            ∙ (sym (written-append nodes at (flat_words (flat_all 0 (term_parsed (term_of w.clause.head)))) (flat_words (flat_all 0 (body_parsed w.clause.body))))
            ∙ ap (put_all nodes at) (sym (flat-clause w.clause)))),
        (let m1 : q ≡ at + length (flat_words (flat_all 0 (term_parsed (term_of w.clause.head)))) = m.1 in
            let n1 : r ≡ q + length (flat_words (flat_all 0 (body_parsed w.clause.body))) = n.1 in
            let y : r ≡ at + length (flat_words (flat_all 0 (clause_parsed w.clause))) = omega arith in y),
      );
    }

-- ---- how long the copies are

pub clause-long : (c : Clause) → length (parsed_words (clause_parsed c)) + 3 ≤ length (clause_words c)
unfolding clause_parsed clause_words
clause-long c =
    let h : length (parsed_words (body_parsed c.body)) ≤ length (body_words c.body) = body-long c.body in
    let a : length (parsed_words (term_parsed (term_of c.head) ++ body_parsed c.body)) ≡ length (parsed_words (term_parsed (term_of c.head))) + length (parsed_words (body_parsed c.body)) = ap length (parsed-append (term_parsed (term_of c.head)) (body_parsed c.body)) ∙ length-append (parsed_words (term_parsed (term_of c.head))) (parsed_words (body_parsed c.body)) in
    let d : length (atom_words c.head ++ body_words c.body) ≡ length (term_words (term_of c.head)) + length (body_words c.body) = length-append (term_words (term_of c.head)) (body_words c.body) in
    let l : length (term_words (term_of c.head)) ≡ length (parsed_words (term_parsed (term_of c.head))) = head-long c in
    let y : length (parsed_words (term_parsed (term_of c.head) ++ body_parsed c.body)) + 3 ≤ suc (suc (suc (length (atom_words c.head ++ body_words c.body)))) = omega arith in
    y

pub clauses-long : (cs : List Clause) → length (parsed_words (clauses_parsed cs)) ≤ length (clauses_words cs)
unfolding clauses_parsed clauses_words parsed_words
clauses-long [] = omega arith
clauses-long (c ∷ cs) =
    let h : length (parsed_words (clauses_parsed cs)) ≤ length (clauses_words cs) = clauses-long cs in
    let a : length (parsed_words (clause_parsed c ++ clauses_parsed cs)) ≡ length (parsed_words (clause_parsed c)) + length (parsed_words (clauses_parsed cs)) = ap length (parsed-append (clause_parsed c) (clauses_parsed cs)) ∙ length-append (parsed_words (clause_parsed c)) (parsed_words (clauses_parsed cs)) in
    let d : length (clause_words c ++ clauses_words cs) ≡ length (clause_words c) + length (clauses_words cs) = length-append (clause_words c) (clauses_words cs) in
    let l : length (parsed_words (clause_parsed c)) + 3 ≤ length (clause_words c) = clause-long c in
    let y : length (parsed_words (clause_parsed c ++ clauses_parsed cs)) ≤ length (clause_words c ++ clauses_words cs) = omega arith in
    y

-- ---- clauses

-- What is left of the clauses, written behind what is copied so far, gives the whole.
pub record Clausing (table : List ℕ) (clauses : ℕ) (before : List ℕ) (at : ℕ) (whole nodes : List ℕ) (p q i : ℕ) : Type 0 where
  pub source : List ℕ
  pub short : length source ≤ program_bytes
  pub rest : List Clause
  pub has : WordsAt table p (clauses_words rest)
  pub count : clauses ≡ i + length rest
  pub stand : ClausesSpelt source rest
  pub same : put_all nodes q (flat_words (flat_all 0 (clauses_parsed rest))) ≡ put_all before at whole
  pub past : q + length (flat_words (flat_all 0 (clauses_parsed rest))) ≡ at + length whole
  pub near : q * node_words ≤ p * loaded_node + goal_words * loaded_node

pub clauses-begin : (table : List ℕ) (clauses : ℕ) (nodes : List ℕ) (at : ℕ) → at * 3 ≤ goal_words * loaded_node → (w : ClausesHere table 0 clauses)
    → Clausing table clauses nodes at (flat_words (flat_all 0 (clauses_parsed w.list))) nodes 0 at 0
clauses-begin table clauses nodes at l w = record {
  source = w.text;
  short = w.short;
  rest = w.list;
  has = w.has;
  count = (let e : clauses ≡ length w.list = w.count in let z : clauses ≡ 0 + length w.list = omega arith in z);
  stand = w.stand;
  same = refl;
  past = refl;
  near = (let y : at * node_words ≤ 0 * loaded_node + goal_words * loaded_node = omega arith in y);
}

pub record ClausesTurn (table : List ℕ) (clauses : ℕ) (before : List ℕ) (at : ℕ) (whole nodes : List ℕ) (p q i : ℕ) : Type 0 where
  pub clause : ClauseHere table p
  pub near : q * node_words ≤ p * loaded_node + goal_words * loaded_node
  pub on : (next : ℕ) (after : List ℕ) (r : ℕ) → next ≡ p + length (clause_words clause.clause)
      → (after ≡ put_all nodes q (flat_words (flat_all 0 (clause_parsed clause.clause)))) × (r ≡ q + length (flat_words (flat_all 0 (clause_parsed clause.clause))))
      → Clausing table clauses before at whole after next r (i + 1)

module _ (clauses : ℕ) (before : List ℕ) (at : ℕ) (whole nodes : List ℕ) (q i : ℕ) where
  end-by : (cs : List Clause) → clauses ≡ i + length cs → put_all nodes q (flat_words (flat_all 0 (clauses_parsed cs))) ≡ put_all before at whole
      → q + length (flat_words (flat_all 0 (clauses_parsed cs))) ≡ at + length whole → clauses ≤ i → (nodes ≡ put_all before at whole) × (q ≡ at + length whole)
  unfolding clauses_parsed flat_words flat_all
  end-by [] c s g l = (sym (written-nil nodes q) ∙ s, let z : q + 0 ≡ at + length whole = g in let y : q ≡ at + length whole = omega arith in y)
  end-by (x ∷ b) c s g l = absurd (let z : clauses ≡ i + suc (length b) = c in omega arith)

module _ {table : List ℕ} {clauses : ℕ} {before : List ℕ} {at : ℕ} {whole nodes : List ℕ} {p q i : ℕ} where
  turn_by : (source : List ℕ) → length source ≤ program_bytes → (cs : List Clause) → WordsAt table p (clauses_words cs) → clauses ≡ i + length cs → ClausesSpelt source cs
      → put_all nodes q (flat_words (flat_all 0 (clauses_parsed cs))) ≡ put_all before at whole
      → q + length (flat_words (flat_all 0 (clauses_parsed cs))) ≡ at + length whole
      → q * node_words ≤ p * loaded_node + goal_words * loaded_node → i < clauses → ClausesTurn table clauses before at whole nodes p q i
  unfolding clauses_words clauses_parsed
  turn_by source short [] h c k s g n l = absurd (let z : clauses ≡ i + 0 = c in omega arith)
  turn_by source short (x ∷ b) h c (clause_stands kx kb) s g n l =
      let hx : WordsAt table p (clause_words x) = has_left table p (clause_words x) (clauses_words b) h in
      let hb : WordsAt table (p + length (clause_words x)) (clauses_words b) = has_right table p (clause_words x) (clauses_words b) h in
      let c1 : clauses ≡ i + suc (length b) = c in
      let whole_is : flat_words (flat_all 0 (clause_parsed x ++ clauses_parsed b)) ≡ flat_words (flat_all 0 (clause_parsed x)) ++ flat_words (flat_all 0 (clauses_parsed b)) = flat_append 0 (clause_parsed x) (clauses_parsed b) in
      let long : length (flat_words (flat_all 0 (clause_parsed x ++ clauses_parsed b))) ≡ length (flat_words (flat_all 0 (clause_parsed x))) + length (flat_words (flat_all 0 (clauses_parsed b))) = ap length whole_is ∙ length-append (flat_words (flat_all 0 (clause_parsed x))) (flat_words (flat_all 0 (clauses_parsed b))) in
      let third : length (flat_words (flat_all 0 (clause_parsed x))) * 3 ≡ length (parsed_words (clause_parsed x)) * 2 = flat-length 0 (clause_parsed x) in
      let size : length (parsed_words (clause_parsed x)) + 3 ≤ length (clause_words x) = clause-long x in
      let g1 : q + length (flat_words (flat_all 0 (clause_parsed x ++ clauses_parsed b))) ≡ at + length whole = g in
      record {
        clause = record { text = source; short = short; clause = x; has = hx; stands = kx };
        near = n;
        on = λ next after r e m. record {
          source = source;
          short = short;
          rest = b;
          has = subst (λ (k : ℕ). WordsAt table k (clauses_words b)) (sym e) hb;
          count = (let z : clauses ≡ (i + 1) + length b = omega arith in z);
          stand = kb;
          same = ap₂ (λ (a : List ℕ) (k : ℕ). put_all a k (flat_words (flat_all 0 (clauses_parsed b)))) m.0 m.1
              ∙ (sym (written-append nodes q (flat_words (flat_all 0 (clause_parsed x))) (flat_words (flat_all 0 (clauses_parsed b))))
              ∙ (ap (put_all nodes q) (sym whole_is) ∙ s));
          past = (let z : r ≡ q + length (flat_words (flat_all 0 (clause_parsed x))) = m.1 in let y : r + length (flat_words (flat_all 0 (clauses_parsed b))) ≡ at + length whole = omega arith in y);
          near = (let z : r ≡ q + length (flat_words (flat_all 0 (clause_parsed x))) = m.1 in let y : r * node_words ≤ next * loaded_node + goal_words * loaded_node = omega arith in y);
        };
      }

  pub clauses-turn : i < clauses → Clausing table clauses before at whole nodes p q i → ClausesTurn table clauses before at whole nodes p q i
  clauses-turn l r = turn_by r.source r.short r.rest r.has r.count r.stand r.same r.past r.near l

  pub clauses-end : clauses ≤ i → Clausing table clauses before at whole nodes p q i → (nodes ≡ put_all before at whole) × (q ≡ at + length whole)
  clauses-end l r = end-by clauses before at whole nodes q i r.rest r.count r.same r.past l
