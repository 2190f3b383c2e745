mod KnownMoves
