-- Document 02, Card 3: what is shown of marks. Definitions only: the theorems are in proofs/Chains.antt.

-- 'exactly when'
abbrev pub Exactly : Type 0 → Type 0 → Type 0
Exactly A B = (A → B) × (B → A)
