-- The tables that a proposal stands for, and what the call that makes one answers.
use Rattle.std.specs.Prelude.{ℕ, Bool, List, Ok, Err, Result}
use Rattle.faults.specs.declared.fault.Fault.{Fault}
use Rattle.terms.specs.Script.{Script}
use Rattle.terms.specs.Model.{model}
use Rattle.proposals.specs.declared.proposal.Proposal.{Proposal}
use Rattle.proposals.specs.declared.proposal.form.Inspection.{Inspection}
use Rattle.proposals.specs.Tables.{Tables}
use Rattle.proposals.specs.DueForm.{due_form}

-- what a fact table means, rows and masks, as they are lent
abbrev pub lent : (ℕ → ℕ → Bool) → List ℕ → List ℕ → Tables
lent h rs ms = record { members = h; rows = rs; masks = ms }

-- m tells what a fact table means
abbrev pub tables : {F : Type 0} → (F → ℕ → ℕ → Bool) → Proposal F → Tables
tables m q = lent (m q.facts.now) q.rows.now q.masks.now

-- the script and the tables of an inspection
abbrev pub script : {F : Type 0} → Inspection F → Script
script i = model i.program.now

abbrev pub inspected : {F : Type 0} → (F → ℕ → ℕ → Bool) → Inspection F → Tables
inspected m i = tables m i.proposal.now

abbrev pub made_tables : {F : Type 0} → (F → ℕ → ℕ → Bool) → Result (Proposal F) Fault → Result Tables Fault
made_tables m (Ok q) = Ok (tables m q)
made_tables m (Err e) = Err e

abbrev pub taken : Result (Unit {0}) Fault → Tables → Result Tables Fault
taken (Ok u) t = Ok t
taken (Err e) t = Err e

-- A proposal is made of these tables exactly when they are in due form.
abbrev pub proposal_of : Script → Tables → Result Tables Fault
proposal_of p t = taken (due_form p t) t
