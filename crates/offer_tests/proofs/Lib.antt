mod OneId
