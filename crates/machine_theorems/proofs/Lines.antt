-- The text of a run is as many lines as the run has answers. So of a text that a run was lent, so many lines are the run's own. Assumes nothing.
use Prim.Native.Nat.{ℕ, zero, suc, ◌+◌, ◌≤◌}
use native.Mathlib.Omega.{arith}
use mathlib.Core.Path.{◌≡◌, refl, ap, subst}
use mathlib.Core.Bool.{Bool, true, false, cond, ◌&&◌}
use mathlib.Core.List.{List, [], ◌∷◌, ◌++◌}
use mathlib.Core.Option.{Option, none, some}
use lib.Dec.{leb, ltb, eqb}
use lib.ListN.{length, take, drop, length-append}
use lib.Seq.{sets, sets-eq, take_at}
use borrow.Author.Tests.{ltb-false}
use Rattle.syntax.specs.Quote.{bytes}
use Rattle.syntax.specs.Terms.{Term, Terms, variable, compound, nil, cons, Atom, term_of, Literal, call, equation, truth, falsity, either, Body, done, also, Clause, Sheet, Goal, same_name}
use Rattle.words.specs.Feeds.{feeds, past_lines, InLines}
use Rattle.words.proofs.Feeding.{feedless-first, feedless-rest, feed-line, byte-line, no_lines, lines-append, lines_end, feedless-line, feedless-decimal}
use Rattle.words.specs.Buffers.{decimal}
use Rattle.machine.specs.Substitution.{Variable, same_variable, is_later, RTerm, RTerms, var, app, rnil, rcons, occurs_in, copied, copied_all, replace, replace_all, Binding, resolve}
use Rattle.machine.specs.Unification.{Difference, same, clash, apart, differ_variables, differ_mixed, or_else, differ, differ_all, bound, rounds, places, unify}
use Rattle.machine.specs.Machine.{Pending, Alternative, path, pending, nth_clause, clause_at, gone, equated, moved_on, laid, tried, on_top, called, worked, worked_on, outcome, start}
use Rattle.machine.specs.Answers.{Piece, byte, unbound, bytes_then, spelt, spelt_args, spelt_more, place_of, numbered, bytes_of, is_anonymous, all_anonymous, values_from, line}
use Rattle.machine.specs.Runs.{RunEnd, Done, Wanted, Steps, Full, Deep, Progress, is_empty, is_answer, line_with, next_line, goes_deeper, endings, first_end, one_if, advance, end_or, run_from, begun, run, Report, RunSettings, ran, reported, run_outcome}
use Rattle.machine.specs.Claims.{RunOver}
use Rattle.machine_theorems.proofs.Names.{Feedless, FeedlessAll, InLiteral, InBody, InClause, InClauses, EachFeedless, InGoal, sheet-names, goal-names}
use Rattle.machine_theorems.proofs.Piles.{All, all-step}
use Rattle.machine_theorems.proofs.EveryRun.{nothing-open-in-runs}

-- ---- terms of a run, and bindings

abbrev mutual
  Plain : RTerm → Type 0
  Plain (var v) = Unit {0}
  Plain (app f ts) = (feeds f ≡ 0) × PlainAll ts

  PlainAll : RTerms → Type 0
  PlainAll rnil = Unit {0}
  PlainAll (rcons t ts) = Plain t × PlainAll ts

mutual
  copied-plain : (c : ℕ) (t : Term) → Feedless t → Plain (copied c t)
  copied-plain c (variable i at) h = tt
  copied-plain c (compound at f ts) h = (h.0, all-copied-plain c ts h.1)

  all-copied-plain : (c : ℕ) (ts : Terms) → FeedlessAll ts → PlainAll (copied_all c ts)
  all-copied-plain c nil h = tt
  all-copied-plain c (cons t ts) h = (copied-plain c t h.0, all-copied-plain c ts h.1)

mutual
  replace-plain : (v : Variable) (s t : RTerm) → Plain s → Plain t → Plain (replace v s t)
  replace-plain v s (var w) h k = go (same_variable v w)
    where
      go : (b : Bool) → Plain (cond b s (var w))
      go true = h
      go false = tt
  replace-plain v s (app f ts) h k = (k.0, all-replace-plain v s ts h k.1)

  all-replace-plain : (v : Variable) (s : RTerm) (ts : RTerms) → Plain s → PlainAll ts → PlainAll (replace_all v s ts)
  all-replace-plain v s rnil h k = tt
  all-replace-plain v s (rcons t ts) h k = (replace-plain v s t h k.0, all-replace-plain v s ts h k.1)

abbrev EachPlain : List Binding → Type 0
EachPlain [] = Unit {0}
EachPlain (e ∷ b) = Plain e.term × EachPlain b

resolve-plain : (b : List Binding) (t : RTerm) → EachPlain b → Plain t → Plain (resolve b t)
unfolding resolve
resolve-plain [] t h k = k
resolve-plain (e ∷ b) t h k = replace-plain e.variable e.term (resolve b t) h.0 (resolve-plain b t h.1 k)

-- ---- unification binds to terms that were there

abbrev IfApart : Difference → Type 0
IfApart same = Unit {0}
IfApart clash = Unit {0}
IfApart (apart v s) = Plain s

or-plain : (d e : Difference) → IfApart d → IfApart e → IfApart (or_else d e)
unfolding or_else
or-plain same e h k = k
or-plain clash e h k = tt
or-plain (apart v s) e h k = h

variables-plain : (v w : Variable) → IfApart (differ_variables v w)
unfolding differ_variables
variables-plain v w = go (same_variable v w) (is_later v w)
  where
    go : (a b : Bool) → IfApart (cond a same (cond b (apart v (var w)) (apart w (var v))))
    go true b = tt
    go false true = tt
    go false false = tt

mixed-plain : (v : Variable) (f : List ℕ) (ts : RTerms) → Plain (app f ts) → IfApart (differ_mixed v f ts)
unfolding differ_mixed
mixed-plain v f ts h = go (occurs_in v ts)
  where
    go : (a : Bool) → IfApart (cond a clash (apart v (app f ts)))
    go true = tt
    go false = h

names-plain : (b : Bool) (d : Difference) → IfApart d → IfApart (cond b d clash)
names-plain true d h = h
names-plain false d h = tt

mutual
  unfolding differ differ_all

  differ-plain : (t u : RTerm) → Plain t → Plain u → IfApart (differ t u)
  differ-plain (var v) (var w) h k = variables-plain v w
  differ-plain (var v) (app g us) h k = mixed-plain v g us k
  differ-plain (app f ts) (var w) h k = mixed-plain w f ts h
  differ-plain (app f ts) (app g us) h k = names-plain (same_name f g) (differ_all ts us) (all-differ-plain ts us h.1 k.1)

  all-differ-plain : (ts us : RTerms) → PlainAll ts → PlainAll us → IfApart (differ_all ts us)
  all-differ-plain rnil rnil h k = tt
  all-differ-plain rnil (rcons u us) h k = tt
  all-differ-plain (rcons t ts) rnil h k = tt
  all-differ-plain (rcons t ts) (rcons u us) h k =
      or-plain (differ t u) (differ_all ts us) (differ-plain t u h.0 k.0) (all-differ-plain ts us h.1 k.1)

abbrev IfSome : Option (List Binding) → Type 0
IfSome none = Unit {0}
IfSome (some b) = EachPlain b

module _ (t u : RTerm) (left : Plain t) (right : Plain u) where
  rounds-plain : (n : ℕ) (b : List Binding) → EachPlain b → IfSome (rounds n b t u)
  unfolding rounds bound
  rounds-plain zero b h = h
  rounds-plain (suc n) b h =
      go (differ (resolve b t) (resolve b u)) (differ-plain (resolve b t) (resolve b u) (resolve-plain b t h left) (resolve-plain b u h right))
      (λ b1 k. rounds-plain n b1 k)
    where
      go : (d : Difference) → IfApart d → ((b1 : List Binding) → EachPlain b1 → IfSome (rounds n b1 t u)) → IfSome (bound d b (λ b1. rounds n b1 t u))
      go same e k = h
      go clash e k = tt
      go (apart v s) e k = k (record { variable = v; term = s } ∷ b) (e, h)

  unify-plain : (b : List Binding) → EachPlain b → IfSome (unify b t u)
  unfolding unify
  unify-plain b h = rounds-plain (suc (places (resolve b t) + places (resolve b u))) b h

-- ---- alternatives

abbrev EachPending : List Pending → Type 0
EachPending [] = Unit {0}
EachPending (p ∷ ps) = InLiteral p.literal × EachPending ps

pending-plain : (c : ℕ) (b : Body) (rest : List Pending) → InBody b → EachPending rest → EachPending (pending c b rest)
unfolding pending
pending-plain c done rest h k = k
pending-plain c (also l b) rest h k = (h.0, pending-plain c b rest h.1 k)

record Good (a : Alternative) : Type 0 where
  bound : EachPlain a.bindings
  literals : EachPending a.literals

abbrev Found : Option Clause → Type 0
Found none = Unit {0}
Found (some cl) = InClause cl

nth-found : (cls : List Clause) (k : ℕ) → InClauses cls → Found (nth_clause cls k)
unfolding nth_clause
nth-found [] k h = tt
nth-found (cl ∷ cls) zero h = h.0
nth-found (cl ∷ cls) (suc k) h = nth-found cls k h.1

clause-found : (sh : Sheet) (n : ℕ) → InClauses sh.clauses → Found (clause_at sh n)
unfolding clause_at
clause-found sh zero h = tt
clause-found sh (suc k) h = nth-found sh.clauses k h

module _ (sh : Sheet) (clauses : InClauses sh.clauses) where
  module _ (a : Alternative) (good : Good a) (c : ℕ) (rest : List Pending) (others : EachPending rest) where
    laid-good : (at : Atom) (cl : Clause) → InClause cl → (r : Option (List Binding)) → IfSome r → All Good (on_top (laid sh a c at rest cl r) (moved_on sh a at))
    unfolding on_top laid moved_on
    laid-good at cl k none h = (record { bound = good.bound; literals = good.literals }, tt)
    laid-good at cl k (some b) h = (
      record { bound = h; literals = pending-plain (suc (path a)) cl.body rest k.body others },
      (record { bound = good.bound; literals = good.literals }, tt),
    )

    called-good : (at : Atom) → Feedless (term_of at) → (o : Option Clause) → Found o → All Good (called sh a c at rest o)
    unfolding called tried
    called-good at h none k = tt
    called-good at h (some cl) k =
        laid-good at cl k (unify a.bindings (copied c (term_of at)) (copied (suc (path a)) (term_of cl.head)))
        (unify-plain (copied c (term_of at)) (copied (suc (path a)) (term_of cl.head)) (copied-plain c (term_of at) h)
        (copied-plain (suc (path a)) (term_of cl.head) k.head) a.bindings good.bound)

    gone-good : (lits : List Pending) → EachPending lits → (b : List Binding) → EachPlain b → Good (gone sh a lits b)
    unfolding gone
    gone-good lits k b h = record { bound = h; literals = k }

    equated-good : (r : Option (List Binding)) → IfSome r → All Good (equated sh a rest r)
    unfolding equated
    equated-good none h = tt
    equated-good (some b) h = (gone-good rest others b h, tt)

    worked-good : (l : Literal) → InLiteral l → All Good (worked sh a c rest l)
    unfolding worked
    worked-good (call at) h = called-good at h (clause_at sh a.next) (clause-found sh a.next clauses)
    worked-good (equation t u) h =
        equated-good (unify a.bindings (copied c t) (copied c u))
        (unify-plain (copied c t) (copied c u) (copied-plain c t h.0) (copied-plain c u h.1) a.bindings good.bound)
    worked-good truth h = (gone-good rest others a.bindings good.bound, tt)
    worked-good falsity h = tt
    worked-good (either y z) h = (side y h.0, (side z h.1, tt))
      where
        side : (x : Body) → InBody x → Good (gone sh a (pending c x rest) a.bindings)
        side x k = gone-good (pending c x rest) (pending-plain c x rest k others) a.bindings good.bound

  outcome-good : (a : Alternative) → Good a → All Good (outcome sh a)
  unfolding outcome worked_on
  outcome-good a good = go a.literals good.literals
    where
      go : (lits : List Pending) → EachPending lits → All Good (worked_on sh a lits)
      go [] h = tt
      go (p ∷ ps) h = worked-good a good p.copy ps h.1 p.literal h.0

  start-good : (g : Goal) → InBody g.body → All Good (start sh g)
  unfolding start
  start-good g h = (record { bound = tt; literals = pending-plain 0 g.body [] h tt }, tt)

-- ---- an answer's line

-- bytes of one line, whatever numbers the unbound variables have
abbrev OneLine : List Piece → Type 0
OneLine ps = (met : List Variable) → InLines 1 (bytes_of met ps)

byte-piece : (b : ℕ) (ps : List Piece) → (b ≡ 10 → ⊥) → OneLine ps → OneLine (byte b ∷ ps)
unfolding bytes_of
byte-piece b ps k h met = byte-line k (h met)

last-piece : OneLine (byte 10 ∷ [])
unfolding bytes_of
last-piece met = feed-line no_lines

numbered-line : (n : ℕ) (rest : List ℕ) → InLines 1 rest → InLines 1 (numbered n rest)
unfolding numbered
numbered-line n rest h = byte-line (λ e. omega arith) (feedless-line (decimal n) rest 0 (feedless-decimal n) h)

unbound-piece : (v : Variable) (ps : List Piece) → OneLine ps → OneLine (unbound v ∷ ps)
unfolding bytes_of
unbound-piece v ps h met = go (place_of v 1 met)
  where
    go : (o : Option ℕ)
        → InLines 1 (elim o as (λ _. List ℕ) [ none ↦ numbered (suc (length met)) (bytes_of (met ++ (v ∷ [])) ps) | some n ↦ numbered n (bytes_of met ps) ])
    go none = numbered-line (suc (length met)) (bytes_of (met ++ (v ∷ [])) ps) (h (met ++ (v ∷ [])))
    go (some n) = numbered-line n (bytes_of met ps) (h met)

written-line : (bs : List ℕ) (ps : List Piece) → feeds bs ≡ 0 → OneLine ps → OneLine (bytes_then bs ps)
unfolding bytes_then
written-line [] ps h k = k
written-line (b ∷ bs) ps h k = byte-piece b (bytes_then bs ps) (feedless-first b bs h) (written-line bs ps (feedless-rest b bs h) k)

mutual
  unfolding spelt spelt_args spelt_more

  spelt-line : (t : RTerm) (ps : List Piece) → Plain t → OneLine ps → OneLine (spelt t ps)
  spelt-line (var v) ps h k = unbound-piece v ps k
  spelt-line (app f ts) ps h k = written-line f (spelt_args ts ps) h.0 (args-line ts ps h.1 k)

  args-line : (ts : RTerms) (ps : List Piece) → PlainAll ts → OneLine ps → OneLine (spelt_args ts ps)
  args-line rnil ps h k = k
  args-line (rcons t ts) ps h k =
      byte-piece 40 (spelt t (spelt_more ts ps)) (λ e. omega arith) (spelt-line t (spelt_more ts ps) h.0 (more-line ts ps h.1 k))

  more-line : (ts : RTerms) (ps : List Piece) → PlainAll ts → OneLine ps → OneLine (spelt_more ts ps)
  more-line rnil ps h k = byte-piece 41 ps (λ e. omega arith) k
  more-line (rcons t ts) ps h k =
      byte-piece 44 (spelt t (spelt_more ts ps)) (λ e. omega arith) (spelt-line t (spelt_more ts ps) h.0 (more-line ts ps h.1 k))

feedless-equals : feeds (bytes " = ") ≡ 0
unfolding feeds
feedless-equals = refl

feedless-comma : feeds (bytes ", ") ≡ 0
unfolding feeds
feedless-comma = refl

feedless-none : feeds [] ≡ 0
unfolding feeds
feedless-none = refl

values-line : (b : List Binding) → EachPlain b → (i : ℕ) (separator : List ℕ) → feeds separator ≡ 0 → (names : List (List ℕ)) → EachFeedless names
    → OneLine (values_from b i separator names)
unfolding values_from
values-line b h i separator k [] n = last-piece
values-line b h i separator k (x ∷ xs) n =
    go (is_anonymous x) (values-line b h (suc i) separator k xs n.1) (values-line b h (suc i) (bytes ", ") feedless-comma xs n.1)
  where
    value : RTerm
    value = resolve b (var (record { copy = 0; number = i }))

    after : List Piece
    after = values_from b (suc i) (bytes ", ") xs

    go : (t : Bool) → OneLine (values_from b (suc i) separator xs) → OneLine after
        → OneLine (elim t as (λ _. List Piece) [
          | true ↦ values_from b (suc i) separator xs
          | false ↦ bytes_then separator (bytes_then x (bytes_then (bytes " = ") (spelt value after)))
        ])
    go true l m = l
    go false l m =
        written-line separator (bytes_then x (bytes_then (bytes " = ") (spelt value after))) k
        (written-line x (bytes_then (bytes " = ") (spelt value after)) n.0
        (written-line (bytes " = ") (spelt value after) feedless-equals
        (spelt-line value after (resolve-plain b (var (record { copy = 0; number = i })) h tt) m)))

yes-line : InLines 1 (bytes "yes\n")
yes-line = byte-line (λ e. omega arith) (byte-line (λ e. omega arith) (byte-line (λ e. omega arith) (feed-line no_lines)))

line-line : (g : Goal) (b : List Binding) → EachFeedless g.names → EachPlain b → InLines 1 (line g b)
unfolding line
line-line g b h k = go (all_anonymous g.names)
  where
    go : (t : Bool) → InLines 1 (elim t as (λ _. List ℕ) [ true ↦ bytes "yes\n" | false ↦ bytes_of [] (values_from b 0 [] g.names) ])
    go true = yes-line
    go false = values-line b k 0 [] feedless-none g.names h []

-- ---- the run

module _ (sh : Sheet) (g : Goal) (wanted room : ℕ) (clauses : InClauses sh.clauses) (goal : InGoal g) where
  record Lined (p : Progress) : Type 0 where
    pile : All Good p.pile
    lines : InLines p.answers p.text
    fits : length p.text ≤ room

  -- a step writes a line where it is an answer, and else nothing
  abbrev Adds : List Alternative → Type 0
  Adds pile = InLines (one_if (is_answer pile)) (next_line g pile)

  with-adds : (a : Alternative) → EachPlain a.bindings → (lits : List Pending) → InLines (one_if (is_empty lits)) (line_with g a lits)
  unfolding is_empty line_with one_if
  with-adds a h [] = line-line g a.bindings goal.names h
  with-adds a h (p ∷ ps) = no_lines

  next-adds : (pile : List Alternative) → All Good pile → Adds pile
  unfolding is_answer next_line one_if
  next-adds [] h = no_lines
  next-adds (a ∷ below) h = with-adds a h.0.bound a.literals

  -- no end applies, so a line that is written has room
  has_room : (x : Bool) (text new : List ℕ) → length text ≤ room → (x ≡ false → new ≡ []) → x && ltb room (length text + length new) ≡ false
      → length (text ++ new) ≤ room
  has_room true text new h k e = omega (arith, length-append text new, ltb-false room (length text + length new) e)
  has_room false text new h k e = let z : length new ≡ 0 = ap length (k refl) in omega (arith, length-append text new)

  no_answer : (pile : List Alternative) → is_answer pile ≡ false → next_line g pile ≡ []
  unfolding is_answer next_line is_empty line_with
  no_answer [] e = refl
  no_answer (a ∷ below) e = go a.literals e
    where
      go : (lits : List Pending) → is_empty lits ≡ false → line_with g a lits ≡ []
      go [] q = let z : ◌≡◌ {A = ℕ} 0 1 = cc in absurd (omega arith)
      go (p ∷ ps) q = refl

  not_full : (left : ℕ) (p : Progress) → first_end (endings sh g wanted room left p) ≡ none
      → is_answer p.pile && ltb room (length p.text + length (next_line g p.pile)) ≡ false
  unfolding first_end
  not_full left p e =
      go (is_empty p.pile) (leb wanted p.answers) (eqb left 0) (is_answer p.pile && ltb room (length p.text + length (next_line g p.pile)))
      (goes_deeper sh p.pile) e
    where
      never : (k : RunEnd) → some k ≡ none → ⊥
      never k q = let z : ◌≡◌ {A = ℕ} 0 1 = cc in omega arith

      go : (a b c d f : Bool)
          → ◌≡◌ {A = Option RunEnd} (elim a [ true ↦ some Done | false ↦ elim b [ true ↦ some Wanted | false ↦ elim c [ true ↦ some Steps | false ↦ elim d [ true ↦ some Full | false ↦ elim f [ true ↦ some Deep | false ↦ none ] ] ] ] ]) none
          → d ≡ false
      go true b c d f q = absurd (never Done q)
      go false true c d f q = absurd (never Wanted q)
      go false false true d f q = absurd (never Steps q)
      go false false false true f q = absurd (never Full q)
      go false false false false f q = refl

  advance-lined : (left : ℕ) (p : Progress) → first_end (endings sh g wanted room left p) ≡ none → Lined p → Lined (advance sh g p)
  unfolding advance
  advance-lined left p e h =
      record {
        pile = all-step Good sh g (outcome-good sh clauses) (start-good sh clauses g goal.body) p.pile h.pile;
        lines = lines-append p.text (next_line g p.pile) p.answers (one_if (is_answer p.pile)) h.lines (next-adds p.pile h.pile);
        fits = has_room (is_answer p.pile) p.text (next_line g p.pile) h.fits (no_answer p.pile) (not_full left p e);
      }

  from-lined : (n : ℕ) (p : Progress) → Lined p → Lined (run_from sh g wanted room n p).at
  unfolding run_from end_or
  from-lined zero p h = go (first_end (endings sh g wanted room 0 p))
    where
      go : (o : Option RunEnd) → Lined (end_or p o (λ _. record { kind = Steps; at = p })).at
      go none = h
      go (some k) = h
  from-lined (suc n) p h = go (first_end (endings sh g wanted room (suc n) p)) refl (λ e. from-lined n (advance sh g p) (advance-lined (suc n) p e h))
    where
      go : (o : Option RunEnd) → first_end (endings sh g wanted room (suc n) p) ≡ o
          → (first_end (endings sh g wanted room (suc n) p) ≡ none → Lined (run_from sh g wanted room n (advance sh g p)).at)
          → Lined (end_or p o (λ _. run_from sh g wanted room n (advance sh g p))).at
      go none e k = k e
      go (some x) e k = h

  run-lined : (allowance : ℕ) → Lined (run sh g allowance wanted room).at
  unfolding run begun
  run-lined allowance =
      from-lined allowance (begun sh g)
      (record { pile = start-good sh clauses g goal.body; lines = no_lines; fits = (let z : 0 ≤ room = omega arith in z) })

-- ---- over texts

-- as many lines as answers, which fit the room
record Written (room : ℕ) (r : Report) (text : List ℕ) : Type 0 where
  lines : InLines r.answers text
  fits : length text ≤ room

run-written : (sheet goal : List ℕ) (asked : RunSettings) (room : ℕ) (r : Report) (text : List ℕ) → run_outcome sheet goal asked room ≡ ran r text
    → Written room r text
unfolding reported
run-written sheet goal asked room r text e = go o.reports
  where
    o : RunOver sheet goal asked room r text
    o = nothing-open-in-runs sheet goal asked room r text e

    sh : Sheet
    sh = o.texts.sh

    g : Goal
    g = o.texts.g

    clauses : InClauses sh.clauses
    clauses = sheet-names asked.stored sheet sh o.texts.sheet_accepted

    names : InGoal g
    names = goal-names goal sh g o.texts.goal_accepted

    at : Progress
    at = (run sh g asked.allowance asked.wanted room).at

    lined : Lined sh g asked.wanted room clauses names at
    lined = run-lined sh g asked.wanted room clauses names asked.allowance

    go : reported (run sh g asked.allowance asked.wanted room) ≡ ran r text → Written room r text
    go q =
        let answers-are : at.answers ≡ r.answers = cc in
        let text_is : at.text ≡ text = cc in
        record { lines = subst (λ (l : List ℕ). InLines r.answers l) text_is (subst (λ (n : ℕ). InLines n at.text) answers-are lined.lines); fits = subst (λ (l : List ℕ). length l ≤ room) text_is lined.fits }

-- The text of a run has as many line feeds as the run has answers, and ends behind the last of them.
pub run-lines : (sheet goal : List ℕ) (asked : RunSettings) (room : ℕ) (r : Report) (text : List ℕ) → run_outcome sheet goal asked room ≡ ran r text
    → InLines r.answers text
run-lines sheet goal asked room r text e = (run-written sheet goal asked room r text e).lines

-- So of what a run leaves in the text that it is lent, as many lines as it has answers are all that it wrote.
pub lines-of-a-run : (sheet goal : List ℕ) (asked : RunSettings) (old : List ℕ) (r : Report) (text : List ℕ)
    → run_outcome sheet goal asked (length old) ≡ ran r text → take (past_lines r.answers (sets old 0 text)) (sets old 0 text) ≡ text
lines-of-a-run sheet goal asked old r text e =
    let w : Written (length old) r text = run-written sheet goal asked (length old) r text e in
    let whole : sets old 0 text ≡ text ++ drop (0 + length text) old = sets-eq text old 0 (let z : 0 + length text ≤ length old = omega (arith, w.fits) in z) in
    let end : past_lines r.answers (text ++ drop (0 + length text) old) ≡ length text = lines_end text (drop (0 + length text) old) r.answers w.lines in
    rw whole (rw end (take_at text (drop (0 + length text) old) (length text) refl))
