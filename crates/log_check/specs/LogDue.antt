-- What `check --proof FILE` is due to answer by a book and a demand: whether the log that the file tells shows that no selection
-- is feasible. (own rule; the certificate can come from anybody)
--     IsLogJudged o w book path file answer     this answer is due on the bytes of the file at the path, where one is there
-- A file that isn't there is missing, and so is one in whose place a folder stands; then comes the first bad line of a text that
-- is that of no log; and then a log that doesn't refute the instance of the book and the demand differs.
use Rattle.std.specs.Prelude.{◌≡◌, ◌⊎◌, ℕ, List, [], ◌∷◌, ◌++◌, codes, Option, Some, None, Result}
use Rattle.pkg_world.specs.Path.{Path}
use Rattle.pkg_world.specs.declared.cause.Cause.TheVariants.{BadLog}
use Rattle.offer_terms.specs.Offered.{Offers, Selected}
use Rattle.offer_terms.specs.Booked.{Packed}
use Rattle.offer_terms.specs.Demanded.{Wanted}
use Rattle.offer_terms.specs.Feasible.{IsFeasible}
use Rattle.version_graph.specs.Graph.{Graph}
use Rattle.refutation_log.specs.declared.node.Node.{Node}
use Rattle.refutation_log.specs.Refutes.{IsRefutation}
use Rattle.book_graph.specs.StandsFor.{StandsFor}
use Rattle.log_text.specs.Text.{IsTextOf, IsLogText}
use Rattle.log_text.specs.Bad.{IsFirstBadLine}
use Rattle.command_answers.specs.declared.status.Difference.TheVariants.{Log}
use Rattle.command_answers.specs.declared.status.Status.{Status}
use Rattle.command_answers.specs.declared.status.Status.TheVariants.{MissingFile, BadFile, Differs}
use Rattle.log_check.specs.Limited.{IsJudgedBy}

abbrev pub refuted_line : List ℕ
refuted_line = codes "refuted" ++ 10 ∷ []

-- ---- a log that was read

-- it refutes an instance that stands for the book and the demand
pub record Certifies (book : List Packed) (w : Wanted) (log : List Node) : Type 0 where
  pub graph : Graph
  pub stands : StandsFor book w graph
  pub refutes : IsRefutation graph log

-- so it does, and no selection is feasible over the offers
pub record IsRefuted (o : Offers) (w : Wanted) (book : List Packed) (log : List Node) (line : List ℕ) : Type 0 where
  pub certified : Certifies book w log
  pub none : (s : Selected) → IsFeasible o w s → ⊥
  pub told : line ≡ refuted_line

-- it refutes none that stands for them, and the path of its file is told
pub record IsUnrefuted (w : Wanted) (book : List Packed) (path : Path) (log : List Node) (status : Status) : Type 0 where
  pub uncertified : Certifies book w log → ⊥
  pub told : status ≡ Differs (Log path)

-- ---- the text of a file

-- the text is that of a log that refutes
pub record IsProof (o : Offers) (w : Wanted) (book : List Packed) (text : List ℕ) (line : List ℕ) : Type 0 where
  pub log : List Node
  pub read : IsTextOf text log
  pub refuted : IsRefuted o w book log line

-- the text is that of no log, and its first bad line is told
pub record IsBadText (path : Path) (text : List ℕ) (status : Status) : Type 0 where
  pub number : ℕ
  pub bad : IsFirstBadLine IsLogText text number
  pub told : status ≡ BadFile path (BadLog number)

-- the text is that of a log that doesn't refute
pub record IsNoProof (w : Wanted) (book : List Packed) (path : Path) (text : List ℕ) (status : Status) : Type 0 where
  pub log : List Node
  pub read : IsTextOf text log
  pub unrefuted : IsUnrefuted w book path log status

-- ---- the file

abbrev pub IsProved : Offers → Wanted → List Packed → Option (List ℕ) → List ℕ → Type 0
IsProved o w book None line = ⊥
IsProved o w book (Some text) line = IsProof o w book text line

abbrev pub IsUnproved : Wanted → List Packed → Path → Option (List ℕ) → Status → Type 0
IsUnproved w book path None status = status ≡ MissingFile path
IsUnproved w book path (Some text) status = IsBadText path text status ⊎ IsNoProof w book path text status

-- ---- the answer

abbrev pub AreNodesJudged : Offers → Wanted → List Packed → Path → List Node → Result (List ℕ) Status → Type 0
AreNodesJudged o w book path log answer = IsJudgedBy book w (IsRefuted o w book log) (IsUnrefuted w book path log) answer

abbrev pub IsLogJudged : Offers → Wanted → List Packed → Path → Option (List ℕ) → Result (List ℕ) Status → Type 0
IsLogJudged o w book path file answer = IsJudgedBy book w (IsProved o w book file) (IsUnproved w book path file) answer
